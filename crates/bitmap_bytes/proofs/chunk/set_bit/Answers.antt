use Rattle.std.proofs.Common.{◌∙◌, ap, arith, eqb}
use Rattle.std.proofs.lemmas.Nat.{mod_below}
use Rattle.bitmap_bytes.proofs.Bytes.Bits.{bit_or_here, bit_or_other, bit_clear_here, bit_clear_other}
use Rattle.bitmap_bytes.proofs.Chunks.Bits.{chunk_bit-set_here, chunk_bit-set_other}
use Rattle.bitmap_bytes.proofs.chunk.set_bit.Goals as goal

pub returns-then-value : goal.returns-then-value
returns-then-value g c = rw (c.byte_index-byte.ensures.value, c.bit_mask-mask.ensures.value, c.if-value.true) (record {
  here = chunk_bit-set_here _ _ _ _ c.requires.width.positive c.told-chunk ∙ ap (λ x. eqb x 1) (bit_or_here _ _);
  others = chunk_bit-set_other _ _ _ _ c.requires.width.positive c.told-chunk (λ k _ d. bit_or_other _ _ k d);
})

pub returns-else-value : goal.returns-else-value
returns-else-value g c = rw (c.byte_index-byte.ensures.value, c.bit_mask-mask.ensures.value, c.if-value.false) (record {
  here =
      chunk_bit-set_here _ _ _ _ c.requires.width.positive c.told-chunk
      ∙ ap (λ x. eqb x 1) (bit_clear_here _ _ (mod_below _ 8 (omega arith)) (rw c.bit_mask-mask.ensures.value at c.bit_mask-mask.ensures.fits));
  others =
      chunk_bit-set_other _ _ _ _ c.requires.width.positive c.told-chunk (λ k s d.
      bit_clear_other _ _ k s (rw c.bit_mask-mask.ensures.value at c.bit_mask-mask.ensures.fits) d);
})
