use Rattle.bitmap_core.proofs.Pruned.Edits.{len_pushed, bit_pushed}
use Rattle.bitmap_core.proofs.laws.prunable.push_by_position.Goals as goal

pub returns-clause-len : goal.returns-clause-len
returns-clause-len c = len_pushed

pub returns-clause-bits : goal.returns-clause-bits
returns-clause-bits c = bit_pushed
