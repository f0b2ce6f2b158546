use Rattle.std.proofs.Common.{ℕ, ◌+◌, ◌*◌, ◌≤◌, length, arith}
use Rattle.std.proofs.Math.Nat.{mul-add, mul-le-mul_left}
use Rattle.bitmap_bytes.proofs.Lists.Bits.{len_is}
use Rattle.bitmap_core.proofs.Chunks.Whole.{chunk_within}
use Rattle.bitmap_core.proofs.Meanings.Plain.{plain_shows}
use Rattle.bitmap_core.proofs.bitmap.BitMap.slice_around.Goals as goal

pub slice_around-requires : goal.slice_around-requires
slice_around-requires g c =
    (omega (arith, c.self.invariant.width.fits), chunk_within _ _ _ _ (omega (arith, len_is _ _ _ _ c.self.view_is)) c.self.invariant.count)

pub returns-clause-stored : goal.returns-clause-stored
returns-clause-stored g c = λ i h.
    let k : ℕ = c.slice_around.result.1 + i in
    let next : k + 1 ≤ length c.self.inside.chunks.items = omega (arith, c.slice_around.ensures.within) in
    omega (
      arith,
      len_is _ _ _ _ c.self.view_is,
      c.self.invariant.count.1,
      mul-add (8 * g.row.N) k 1,
      mul-le-mul_left (8 * g.row.N) next,
    )

pub returns-clause-shown : goal.returns-clause-shown
returns-clause-shown g c = λ i h. plain_shows _ _ _ _ _ _ c.self.invariant.width.positive c.self.view_is (c.slice_around.ensures.items i h)
