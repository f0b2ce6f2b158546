use Rattle.bitmap_bytes.proofs.Counting.ByteRanges.{none_masked}
use Rattle.bitmap_bytes.proofs.chunk.words.is_byte_unset.Goals as goal

pub returns : goal.returns
returns c = none_masked c.args.byte c.args.from c.args.to c.ranges.byte.fits c.requires.some c.requires.within
