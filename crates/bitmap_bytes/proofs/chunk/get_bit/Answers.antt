use Rattle.bitmap_bytes.proofs.Bytes.Bits.{bit_test}
use Rattle.bitmap_bytes.proofs.chunk.get_bit.Goals as goal

pub returns : goal.returns
returns g c = rw (c.byte_index.ensures.value, c.bit_mask.ensures.value) (bit_test _ _)
