use Rattle.std.proofs.Common.{◌∙◌, arith}
use Rattle.bitmap_bytes.proofs.Lists.Bits.{at_within}
use Rattle.bitmap_core.proofs.Chunks.ByteRead.{bit_read}
use Rattle.bitmap_core.proofs.bitmap.BitMap.read_byte.Goals as goal

pub get_byte-requires : goal.get_byte-requires
get_byte-requires g c = (
  omega (arith, c.self.invariant.width.fits),
  (c.self.invariant.width, at_within _ _ _ _ _ c.self.invariant.width.positive c.self.view_is c.requires c.self.invariant.count),
)

pub returns : goal.returns
returns g c = λ k same. c.get_byte.ensures k same ∙ bit_read _ _ _ _ c.self.view_is c.self.invariant.zero k
