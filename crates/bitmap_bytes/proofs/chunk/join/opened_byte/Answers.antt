use Rattle.bitmap_bytes.proofs.Bytes.Shifted.{opened_low, opened_high}
use Rattle.bitmap_bytes.proofs.chunk.join.opened_byte.Goals as goal

pub returns-clause-low : goal.returns-clause-low
returns-clause-low c = λ t h. opened_low _ _ _ t c.requires h

pub returns-clause-high : goal.returns-clause-high
returns-clause-high c = λ t u h. opened_high _ _ _ t c.requires u h
