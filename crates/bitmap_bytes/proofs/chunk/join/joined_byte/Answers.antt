use Rattle.std.proofs.Common.{arith}
use Rattle.bitmap_bytes.proofs.Bytes.Shifted.{joined_pair_low, joined_pair_high}
use Rattle.bitmap_bytes.proofs.chunk.join.joined_byte.Goals as goal

pub returns-clause-low : goal.returns-clause-low
returns-clause-low c = λ t h. joined_pair_low c.args.low c.args.high c.args.skip t c.requires h

pub returns-clause-high : goal.returns-clause-high
returns-clause-high c = λ t u h. joined_pair_high c.args.low c.args.high c.args.skip t (omega arith) c.requires u h
