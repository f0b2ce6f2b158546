use Rattle.std.proofs.Common.{◌∙◌}
use Rattle.bitmap_bytes.proofs.Bytes.Bits.{bit_flip_here, bit_flip_other}
use Rattle.bitmap_bytes.proofs.Chunks.Bits.{chunk_bit-set_here, chunk_bit-set_other}
use Rattle.bitmap_bytes.proofs.chunk.flip_bit.Goals as goal

pub returns : goal.returns
returns g c = rw (c.byte_index.ensures.value, c.bit_mask.ensures.value) (record {
  here = chunk_bit-set_here _ _ _ _ c.requires.width.positive c.told-chunk ∙ bit_flip_here _ _;
  others = chunk_bit-set_other _ _ _ _ c.requires.width.positive c.told-chunk (λ k _ d. bit_flip_other _ _ k d);
})
