use Rattle.commit_log.proofs.Recovering.{one_recovery}
use Rattle.commit_log.proofs.laws.only_one_recovery.Goals as goal

pub returns : goal.returns
returns c = λ n bytes state other place after torn tears pos h k. one_recovery n bytes state other place after torn tears pos h k
