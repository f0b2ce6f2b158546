use Rattle.authenticated_bitmap.proofs.Roots.{keeps_proofs}
use Rattle.authenticated_bitmap.proofs.root.pruning_keeps_proofs.Goals as goal

pub returns : goal.returns
returns c = keeps_proofs
