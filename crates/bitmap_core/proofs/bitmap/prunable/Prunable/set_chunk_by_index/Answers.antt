use Rattle.std.proofs.Common.{◌∙◌, ap, arith, subst, sym}
use Rattle.bitmap_core.specs.PrunedBits.{PrunedBits, IsRetainedChunk, with_chunk}
use Rattle.bitmap_core.proofs.Pruned.Positions.{retained_chunk}
use Rattle.bitmap_core.proofs.Pruned.Edits.{chunk_replaced, zero_in_bits}
use Rattle.bitmap_core.proofs.bitmap.prunable.Prunable.set_chunk_by_index.Goals as goal

pub replace_chunk-requires : goal.replace_chunk-requires
replace_chunk-requires g c =
    let b : PrunedBits = record { pruned = c.self.inside.pruned_chunks; bits = c.self.inside.bitmap } in
    let has : IsRetainedChunk g.row.N b c.args.index = subst (λ b. IsRetainedChunk g.row.N b c.args.index) (sym c.self.view_is) c.requires.retained in (
      omega arith,
      (
        omega (arith, c.self.invariant.width.fits),
        (
          retained_chunk g.row.N b c.args.index has,
          zero_in_bits g.row.N b c.args.index c.args.chunk.now c.self.invariant.width.positive has.0 (rw (← c.self.view_is) at c.requires.zero),
        ),
      ),
    )

pub returns : goal.returns
returns g c =
    let b : PrunedBits = record { pruned = c.self.inside.pruned_chunks; bits = c.self.inside.bitmap } in
    let has : IsRetainedChunk g.row.N b c.args.index = subst (λ b. IsRetainedChunk g.row.N b c.args.index) (sym c.self.view_is) c.requires.retained in
    chunk_replaced _ b _ _ c.self.invariant.width.positive has.0 _ c.replace_chunk.ensures.len c.replace_chunk.ensures.bits
    ∙ ap (λ b. with_chunk g.row.N b c.args.index c.args.chunk.now) c.self.view_is
