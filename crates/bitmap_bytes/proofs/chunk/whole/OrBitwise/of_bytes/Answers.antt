use Rattle.bitmap_bytes.proofs.Bytes.Bits.{or_bit}
use Rattle.bitmap_bytes.proofs.chunk.whole.OrBitwise.of_bytes.Goals as goal

pub returns : goal.returns
returns c = λ k. or_bit _ _ k
