use Rattle.authenticated_bitmap.proofs.Sound.{binds_leaves, binds_trees}
use Rattle.authenticated_bitmap.proofs.laws.digests_bind_their_leaves.Goals as goal

pub returns : goal.returns
returns c = record { leaves = binds_leaves; trees = binds_trees }
