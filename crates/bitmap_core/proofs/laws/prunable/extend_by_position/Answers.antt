use Rattle.bitmap_core.proofs.Pruned.Edits.{len_appended, bit_extended}
use Rattle.bitmap_core.proofs.laws.prunable.extend_by_position.Goals as goal

pub returns-clause-len : goal.returns-clause-len
returns-clause-len c = len_appended

pub returns-clause-zeros : goal.returns-clause-zeros
returns-clause-zeros c = bit_extended
