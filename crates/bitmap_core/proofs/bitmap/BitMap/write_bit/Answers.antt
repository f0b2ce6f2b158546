use Rattle.std.proofs.Common.{arith}
use Rattle.bitmap_bytes.proofs.Lists.Bits.{at_within, len_is}
use Rattle.bitmap_core.proofs.Lists.Edits.{bits-put}
use Rattle.bitmap_bytes.proofs.Chunks.Lists.{IsZeroFrom-put}
use Rattle.bitmap_core.proofs.bitmap.BitMap.write_bit.Goals as goal

pub set_bit-requires : goal.set_bit-requires
set_bit-requires g c = (
  omega (arith, c.self.invariant.width.fits),
  (c.self.invariant.width, at_within _ _ _ _ _ c.self.invariant.width.positive c.self.view_is c.requires c.self.invariant.count),
)

pub invariant_of-self : goal.invariant_of-self
invariant_of-self g c = record {
  width = c.self.invariant.width;
  count = rw c.set_bit.ensures.count c.self.invariant.count;
  zero = IsZeroFrom-put _ _ _ _ _ _ c.set_bit.ensures (omega (arith, len_is _ _ _ _ c.self.view_is)) c.self.invariant.zero;
}

pub returns : goal.returns
returns g c = bits-put _ _ _ _ _ _ _ c.set_bit.ensures c.self.view_is (omega (arith, len_is _ _ _ _ c.self.view_is))
