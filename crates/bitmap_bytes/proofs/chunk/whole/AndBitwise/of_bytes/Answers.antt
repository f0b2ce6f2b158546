use Rattle.bitmap_bytes.proofs.Bytes.Bits.{and_bit}
use Rattle.bitmap_bytes.proofs.chunk.whole.AndBitwise.of_bytes.Goals as goal

pub returns : goal.returns
returns c = λ k. and_bit _ _ k
