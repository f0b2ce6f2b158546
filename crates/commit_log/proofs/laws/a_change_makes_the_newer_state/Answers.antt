use Rattle.commit_log.proofs.Applied.{applied_change}
use Rattle.commit_log.proofs.laws.a_change_makes_the_newer_state.Goals as goal

pub returns : goal.returns
returns c = λ n number old new pos. applied_change n number old new pos
