use Rattle.bitmap_bytes.proofs.Bytes.Bits.{xor_bit}
use Rattle.bitmap_bytes.proofs.chunk.whole.XorBitwise.of_bytes.Goals as goal

pub returns : goal.returns
returns c = λ k. xor_bit _ _ k
