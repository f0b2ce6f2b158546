use Rattle.std.proofs.Common.{◌∙◌, arith}
use Rattle.bitmap_bytes.proofs.Lists.Bits.{len_is}
use Rattle.bitmap_bytes.proofs.Counting.Places.{none_range}
use Rattle.bitmap_core.proofs.bitmap.BitMap.is_unset.Goals as goal

pub is_unset-requires : goal.is_unset-requires
is_unset-requires g c =
    let l = len_is _ _ _ _ c.self.view_is in
    (omega (arith, c.self.invariant.width.fits), (c.self.invariant.width.positive, omega (arith, c.requires, c.self.invariant.count.0)))

pub returns : goal.returns
returns g c = c.is_unset.ensures ∙ none_range _ _ _ _ c.args.range.start c.args.range.end c.self.view_is c.requires
