use Rattle.bitmap_bytes.proofs.Bytes.Bits.{and_not_bit}
use Rattle.bitmap_bytes.proofs.chunk.whole.AndNotBitwise.of_bytes.Goals as goal

pub returns : goal.returns
returns c = λ k. and_not_bit c.args.a c.args.b k c.ranges.a.fits c.ranges.b.fits
