use Rattle.authenticated_bitmap.proofs.Places.{stores_subtrees}
use Rattle.authenticated_bitmap.proofs.store.subtrees_stay_where_they_are.Goals as goal

pub returns : goal.returns
returns c = stores_subtrees
