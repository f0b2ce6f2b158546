use Rattle.commit_log.proofs.ReadHistories.{one_state}
use Rattle.commit_log.proofs.laws.a_history_has_one_state.Goals as goal

pub returns : goal.returns
returns c = λ n s t rest left pos has other ends finishes is. one_state n s t rest left pos has other ends finishes is
