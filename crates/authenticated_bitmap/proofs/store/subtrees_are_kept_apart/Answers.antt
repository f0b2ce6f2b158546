use Rattle.authenticated_bitmap.proofs.Apart.{keeps_apart}
use Rattle.authenticated_bitmap.proofs.store.subtrees_are_kept_apart.Goals as goal

pub returns : goal.returns
returns c = keeps_apart
