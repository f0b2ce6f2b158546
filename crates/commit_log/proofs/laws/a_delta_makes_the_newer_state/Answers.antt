use Rattle.commit_log.proofs.DeltaSteps.{newer_made}
use Rattle.commit_log.proofs.laws.a_delta_makes_the_newer_state.Goals as goal

pub returns : goal.returns
returns c = λ n from to s new width last step. newer_made n from to s new width last step
