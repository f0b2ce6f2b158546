use Rattle.authenticated_bitmap.proofs.Complete.{path_gives_tree}
use Rattle.authenticated_bitmap.proofs.laws.paths_show_their_leaves.Goals as goal

pub returns : goal.returns
returns c = path_gives_tree
