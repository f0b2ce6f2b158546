use Rattle.bitmap_core.proofs.Pruned.Edits.{popped_is, len_truncated, bit_truncated}
use Rattle.bitmap_core.proofs.laws.prunable.truncate_by_position.Goals as goal

pub returns-clause-len : goal.returns-clause-len
returns-clause-len c = len_truncated

pub returns-clause-bits : goal.returns-clause-bits
returns-clause-bits c = bit_truncated

pub returns-clause-pop : goal.returns-clause-pop
returns-clause-pop c = popped_is
