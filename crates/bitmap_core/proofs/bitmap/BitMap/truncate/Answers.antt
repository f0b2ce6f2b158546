use Rattle.std.proofs.Common.{arith}
use Rattle.bitmap_bytes.proofs.Lists.Bits.{len_is}
use Rattle.bitmap_core.proofs.Lists.Edits.{bits-take}
use Rattle.bitmap_core.proofs.bitmap.BitMap.truncate.Goals as goal

pub shorten-requires : goal.shorten-requires
shorten-requires g c =
    let l = len_is _ _ _ _ c.self.view_is in
    (omega (arith, c.self.invariant.width.fits), (c.self.invariant.width, omega (arith, c.self.invariant.count.0)))

pub returns : goal.returns
returns g c = bits-take _ _ _ c.self.inside.len _ _ (omega (arith, len_is _ _ _ _ c.self.view_is)) c.shorten.ensures.below c.self.view_is
