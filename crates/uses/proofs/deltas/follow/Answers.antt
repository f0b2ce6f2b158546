use Rattle.uses.proofs.deltas.follow.Goals as goal

pub returns-in-Ok-clause-newer : goal.returns-in-Ok-clause-newer
returns-in-Ok-clause-newer c = λ from to newer last is. c.in-Ok.ensures.newer from to newer is.step last is.encoded

pub returns-in-Err-clause-newer : goal.returns-in-Err-clause-newer
returns-in-Err-clause-newer c = λ from to newer last is. c.in-Err.ensures.newer from to newer is.step last is.encoded
