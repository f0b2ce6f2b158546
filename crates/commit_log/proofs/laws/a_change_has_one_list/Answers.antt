use Rattle.commit_log.proofs.Canonical.{canonical_is_list, list_is_canonical}
use Rattle.commit_log.proofs.laws.a_change_has_one_list.Goals as goal

pub returns : goal.returns
returns c = λ n old change pos covers. (list_is_canonical n old change pos covers, canonical_is_list n old change pos covers)
