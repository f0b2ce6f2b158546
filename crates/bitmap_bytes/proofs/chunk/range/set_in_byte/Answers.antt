use Rattle.std.proofs.Common.{◌∙◌, sym}
use Rattle.bitmap_bytes.proofs.Bytes.Ranges.{or_inside, or_outside, and_inside, and_outside}
use Rattle.bitmap_bytes.proofs.chunk.range.set_in_byte.Goals as goal

pub returns-then-value-clause-inside : goal.returns-then-value-clause-inside
returns-then-value-clause-inside c t l h = or_inside _ _ _ t c.requires.some c.requires.within l h ∙ sym c.if-value.true

pub returns-then-value-clause-outside : goal.returns-then-value-clause-outside
returns-then-value-clause-outside c t s h = or_outside _ _ _ t c.requires.some c.requires.within h

pub returns-else-value-clause-inside : goal.returns-else-value-clause-inside
returns-else-value-clause-inside c t l h = and_inside _ _ _ t c.requires.some c.requires.within l h ∙ sym c.if-value.false

pub returns-else-value-clause-outside : goal.returns-else-value-clause-outside
returns-else-value-clause-outside c t s h = and_outside _ _ _ t c.requires.some c.requires.within s h
