use Rattle.std.proofs.Common.{◌&&◌, not}
use Rattle.bitmap_core.proofs.Lists.BitByBit.{joined_len, joined_at}
use Rattle.bitmap_core.proofs.laws.bitwise.and_not_at_each_position.Goals as goal

pub returns-clause-len : goal.returns-clause-len
returns-clause-len g c = joined_len (λ x y. x && not y) _ _ _ c.requires c.and_not.ensures

pub returns-clause-bits : goal.returns-clause-bits
returns-clause-bits g c = joined_at (λ x y. x && not y) _ _ _ c.requires c.and_not.ensures
