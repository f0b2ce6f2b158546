use Rattle.std.proofs.Common.{arith}
use Rattle.bitmap_bytes.proofs.Lists.Bits.{len_is}
use Rattle.bitmap_core.proofs.Lists.Ranges.{bits-set_between, IsZeroFrom-set_between}
use Rattle.bitmap_core.proofs.bitmap.BitMap.set_range.Goals as goal

pub set_range-requires : goal.set_range-requires
set_range-requires g c =
    let l = len_is _ _ _ _ c.self.view_is in
    (omega (arith, c.self.invariant.width.fits), (c.self.invariant.width, omega (arith, c.requires, c.self.invariant.count.0)))

pub invariant_of-self : goal.invariant_of-self
invariant_of-self g c =
    let l = len_is _ _ _ _ c.self.view_is in
    (record {
      width = c.self.invariant.width;
      count = rw c.set_range.ensures.count c.self.invariant.count;
      zero = IsZeroFrom-set_between _ _ _ _ _ _ _ c.set_range.ensures (omega (arith, c.requires)) c.self.invariant.zero;
    })

pub returns : goal.returns
returns g c = bits-set_between _ _ _ _ _ _ _ _ c.set_range.ensures c.self.view_is
