use Rattle.std.proofs.Common.{◌≡◌, ◌*◌, ◌/◌, ◌%◌, ◌-◌, ◌<◌, ◌∙◌, length, ap, arith, subst, sym}
use Rattle.bitmap_core.specs.PrunedBits.{PrunedBits, bit_len, chunk}
use Rattle.bitmap_core.proofs.Pruned.Positions.{last_chunk_of_bits, rest_of_len}
use Rattle.bitmap_core.proofs.bitmap.prunable.Prunable.pop_chunk.Goals as goal

pub remove_last_chunk-requires : goal.remove_last_chunk-requires
remove_last_chunk-requires g c =
    let b : PrunedBits = record { pruned = c.self.inside.pruned_chunks; bits = c.self.inside.bitmap } in (
      omega arith,
      (
        omega (arith, c.self.invariant.width.fits),
        (
          sym (rest_of_len g.row.N b) ∙ ap (λ b. bit_len g.row.N b % (8 * g.row.N)) c.self.view_is ∙ c.requires.aligned,
          subst (λ b. 0 < length b.bits) (sym c.self.view_is) c.requires.filled,
        ),
      ),
    )

pub returns-clause-value : goal.returns-clause-value
returns-clause-value g c =
    let b : PrunedBits = record { pruned = c.self.inside.pruned_chunks; bits = c.self.inside.bitmap } in
    let aligned : length c.self.inside.bitmap % (8 * g.row.N) ≡ 0 =
    sym (rest_of_len g.row.N b)
    ∙ ap (λ b. bit_len g.row.N b % (8 * g.row.N)) c.self.view_is
    ∙ c.requires.aligned in
    let filled : 0 < length c.self.inside.bitmap = subst (λ b. 0 < length b.bits) (sym c.self.view_is) c.requires.filled in
    c.remove_last_chunk.ensures.value
    ∙ last_chunk_of_bits g.row.N b c.self.invariant.width.positive aligned filled
    ∙ ap (λ b. chunk g.row.N b (bit_len g.row.N b / (8 * g.row.N) - 1)) c.self.view_is
