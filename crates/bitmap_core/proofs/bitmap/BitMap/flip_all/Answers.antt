use Rattle.bitmap_bytes.proofs.Chunks.Places.{index_below}
use Rattle.bitmap_core.proofs.Lists.WholeBits.{bits-flip}
use Rattle.bitmap_core.proofs.bitmap.BitMap.flip_all.Goals as goal

pub returns : goal.returns
returns g c =
    bits-flip _ _ _ _ _ _ c.self.view_is (λ i s.
    c.flip.ensures.bits i (index_below _ _ _ _ c.self.invariant.width.positive s c.self.invariant.count)) c.clear_tail.ensures.below
