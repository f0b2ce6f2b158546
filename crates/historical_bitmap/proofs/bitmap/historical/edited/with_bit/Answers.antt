use Rattle.std.proofs.Common.{ap, arith, eqb}
use Rattle.std.proofs.lemmas.Nat.{mod_below}
use Rattle.bitmap_bytes.proofs.Bytes.Bits.{bit_or_here, bit_or_other, bit_clear_here, bit_clear_other}
use Rattle.historical_bitmap.proofs.bitmap.historical.edited.with_bit.Goals as goal

pub returns-then-value-clause-here : goal.returns-then-value-clause-here
returns-then-value-clause-here c = rw (c.bit_mask-mask.ensures.value, c.if-value.true) (ap (λ x. eqb x 1) (bit_or_here _ _))

pub returns-then-value-clause-others : goal.returns-then-value-clause-others
returns-then-value-clause-others c = rw c.bit_mask-mask.ensures.value (λ k s d. bit_or_other _ _ k d)

pub returns-else-value-clause-here : goal.returns-else-value-clause-here
returns-else-value-clause-here c = rw (c.bit_mask-mask.ensures.value, c.if-value.false) (ap (λ x. eqb x 1) (bit_clear_here _ _ (mod_below _ 8 (omega arith)) (rw c.bit_mask-mask.ensures.value at c.bit_mask-mask.ensures.fits)))

pub returns-else-value-clause-others : goal.returns-else-value-clause-others
returns-else-value-clause-others c = rw c.bit_mask-mask.ensures.value (λ k s d. bit_clear_other _ _ k s (rw c.bit_mask-mask.ensures.value at c.bit_mask-mask.ensures.fits) d)
