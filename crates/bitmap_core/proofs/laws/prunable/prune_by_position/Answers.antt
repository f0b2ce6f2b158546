use Rattle.bitmap_core.proofs.Pruned.Edits.{len_pruned_to, bit_pruned, unpruned_pruned}
use Rattle.bitmap_core.proofs.laws.prunable.prune_by_position.Goals as goal

pub returns-clause-len : goal.returns-clause-len
returns-clause-len c = len_pruned_to

pub returns-clause-bits : goal.returns-clause-bits
returns-clause-bits c = bit_pruned

pub returns-clause-put_back : goal.returns-clause-put_back
returns-clause-put_back c = unpruned_pruned
