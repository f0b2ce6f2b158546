use Rattle.std.proofs.Common.{◌≤◌, ◌∙◌, ap, arith, subst, sym}
use Rattle.bitmap_core.specs.PrunedBits.{PrunedBits, IsRetainedChunk, chunk}
use Rattle.bitmap_core.proofs.Pruned.Positions.{chunk_of_bits, retained_chunk}
use Rattle.bitmap_core.proofs.bitmap.prunable.Prunable.get_chunk.Goals as goal

pub chunk_at-requires : goal.chunk_at-requires
chunk_at-requires g c =
    let b : PrunedBits = record { pruned = c.self.inside.pruned_chunks; bits = c.self.inside.bitmap } in (
      omega arith,
      (
        omega (arith, c.self.invariant.width.fits),
        retained_chunk g.row.N b c.args.index (subst (λ b. IsRetainedChunk g.row.N b c.args.index) (sym c.self.view_is) c.requires),
      ),
    )

pub returns : goal.returns
returns g c =
    let b : PrunedBits = record { pruned = c.self.inside.pruned_chunks; bits = c.self.inside.bitmap } in
    let low : c.self.inside.pruned_chunks ≤ c.args.index = (subst (λ b. IsRetainedChunk g.row.N b c.args.index) (sym c.self.view_is) c.requires).0 in
    c.chunk_at.ensures ∙ chunk_of_bits g.row.N b c.args.index low ∙ ap (λ b. chunk g.row.N b c.args.index) c.self.view_is
