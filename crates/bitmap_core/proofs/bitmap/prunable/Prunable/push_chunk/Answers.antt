use Rattle.std.proofs.Common.{◌+◌, ◌*◌, ◌%◌, ◌^◌, ◌<◌, ◌∙◌, length, ap, arith, subst, sym}
use Rattle.std.proofs.lemmas.Result.{on_ok_weaker, on_err_weaker}
use Rattle.bitmap_core.specs.PrunedBits.{PrunedBits, bit_len}
use Rattle.bitmap_core.proofs.Pruned.Positions.{rest_of_len}
use Rattle.bitmap_core.proofs.Pruned.Edits.{either_way, fits_with_chunk}
use Rattle.bitmap_core.proofs.bitmap.prunable.Prunable.push_chunk.Goals as goal

pub push_chunk-requires : goal.push_chunk-requires
push_chunk-requires g c =
    let b : PrunedBits = record { pruned = c.self.inside.pruned_chunks; bits = c.self.inside.bitmap } in
    let space : 8 * g.row.N * c.self.inside.pruned_chunks + length c.self.inside.bitmap + 8 * g.row.N < 2 ^ 64 =
    subst (λ b. bit_len g.row.N b + 8 * g.row.N < 2 ^ 64) (sym c.self.view_is) c.requires.space in (
      omega arith,
      (
        omega (arith, c.self.invariant.width.fits),
        (sym (rest_of_len g.row.N b) ∙ ap (λ b. bit_len g.row.N b % (8 * g.row.N)) c.self.view_is ∙ c.requires.aligned, omega (arith, space)),
      ),
    )

pub invariant_of-self : goal.invariant_of-self
invariant_of-self g c =
    let cached = c.self.invariant in
    let space : 8 * g.row.N * c.self.inside.pruned_chunks + length c.self.inside.bitmap + 8 * g.row.N < 2 ^ 64 =
    subst (λ b. bit_len g.row.N b + 8 * g.row.N < 2 ^ 64) (sym c.self.view_is) c.requires.space in
    (record {
      width = cached.width;
      len = either_way c.push_chunk.result (on_ok_weaker c.push_chunk.result (fits_with_chunk _ _ _ _ _ space) c.push_chunk.ensures.ok)
          (on_err_weaker c.push_chunk.result (λ e. rw e cached.len) c.push_chunk.ensures.err);
    })
