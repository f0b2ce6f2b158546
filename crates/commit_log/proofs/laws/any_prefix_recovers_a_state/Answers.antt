use Rattle.commit_log.proofs.Recovering.{prefix_state}
use Rattle.commit_log.proofs.laws.any_prefix_recovers_a_state.Goals as goal

pub returns : goal.returns
returns c = λ n base entries m bytes h. prefix_state n base entries m bytes h
