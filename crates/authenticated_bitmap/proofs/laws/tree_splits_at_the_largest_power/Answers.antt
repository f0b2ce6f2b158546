use Rattle.authenticated_bitmap.proofs.Heights.{splits}
use Rattle.authenticated_bitmap.proofs.laws.tree_splits_at_the_largest_power.Goals as goal

pub returns : goal.returns
returns c = splits
