use Rattle.log_store.proofs.Prefixes.{prefix_torn}
use Rattle.log_store.proofs.laws.any_prefix_is_a_torn_log.Goals as goal

pub returns : goal.returns
returns c = λ n base entries m bytes h. prefix_torn n base entries m bytes h
