use Rattle.commit_log.proofs.Histories.{history_is_log, history_made, last_is_current}
use Rattle.commit_log.proofs.laws.a_compacted_log_makes_each_state.Goals as goal

pub returns-clause-made : goal.returns-clause-made
returns-clause-made c = λ n s pos ends. history_made n s pos ends

pub returns-clause-is_log : goal.returns-clause-is_log
returns-clause-is_log c = λ n s pos has. history_is_log n s pos has

pub returns-clause-current : goal.returns-clause-current
returns-clause-current c = λ n b. last_is_current n b.commits b.current
