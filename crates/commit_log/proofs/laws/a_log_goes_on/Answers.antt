use Rattle.commit_log.proofs.Appended.{IsLog-push, IsLog-take, log_bytes-push, place_of-push, state_of-push}
use Rattle.commit_log.proofs.laws.a_log_goes_on.Goals as goal

pub returns-clause-bytes : goal.returns-clause-bytes
returns-clause-bytes c = λ n base entries e. log_bytes-push n base entries e

pub returns-clause-place : goal.returns-clause-place
returns-clause-place c = λ n base entries e. place_of-push n base entries e

pub returns-clause-state : goal.returns-clause-state
returns-clause-state c = λ n base entries e. state_of-push n base entries e

pub returns-clause-more : goal.returns-clause-more
returns-clause-more c = λ n base entries e h follows. IsLog-push n base entries e h follows

pub returns-clause-prefix : goal.returns-clause-prefix
returns-clause-prefix c = λ n base entries k h. IsLog-take n base entries k h
