use Rattle.bitmap_core.proofs.Pruned.Edits.{len_set, bit_set}
use Rattle.bitmap_core.proofs.laws.prunable.set_by_position.Goals as goal

pub returns-clause-len : goal.returns-clause-len
returns-clause-len c = len_set

pub returns-clause-bits : goal.returns-clause-bits
returns-clause-bits c = bit_set
