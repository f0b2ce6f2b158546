use Rattle.std.proofs.Common.{◌∙◌}
use Rattle.bitmap_bytes.proofs.Chunks.Places.{index_below}
use Rattle.bitmap_core.proofs.Lists.WholeBits.{bits-fill}
use Rattle.bitmap_core.proofs.bitmap.BitMap.set_all.Goals as goal

pub returns : goal.returns
returns g c =
    bits-fill _ _ _ _ _ _ c.self.view_is (λ i s.
    c.clear_tail.ensures.below i s
    ∙ c.fill.ensures.bits i (index_below _ _ _ _ c.self.invariant.width.positive s c.self.invariant.count))
