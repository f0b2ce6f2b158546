use Rattle.std.proofs.Math.Bool.{xor}
use Rattle.bitmap_core.proofs.Lists.BitByBit.{joined_len, joined_at}
use Rattle.bitmap_core.proofs.laws.bitwise.xor_at_each_position.Goals as goal

pub returns-clause-len : goal.returns-clause-len
returns-clause-len g c = joined_len xor _ _ _ c.requires c.xor.ensures

pub returns-clause-bits : goal.returns-clause-bits
returns-clause-bits g c = joined_at xor _ _ _ c.requires c.xor.ensures
