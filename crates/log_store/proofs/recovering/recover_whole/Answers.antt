use Rattle.std.proofs.Common.{⊎_elim, inl, inr, false, subst, sym, ◌∙◌}
use Rattle.std.proofs.lemmas.Bool.{false≢true}
use Rattle.commit_log.specs.Logs.{place_of, state_of}
use Rattle.commit_log.specs.Recovered.{IsRecoverError}
use Rattle.commit_log.proofs.Recovering.{log_recovers}
use Rattle.log_store.proofs.recovering.recover_whole.Goals as goal

pub returns-then-found-clause-complete : goal.returns-then-found-clause-complete
returns-then-found-clause-complete g c base entries log is =
    let whole = c.in-Ok.ensures.whole base entries log is in
    absurd (false≢true (sym whole.2 ∙ c.if-found.true))

pub returns-in-Err-clause-cause : goal.returns-in-Err-clause-cause
returns-in-Err-clause-cause g c =
    ⊎_elim (λ first. inl first) (λ both. inr (both.0, subst (IsRecoverError g.row.N c.args.bytes.now) both.1 c.in-Err.ensures.cause)) c.memory_or.ensures.either

pub returns-in-Err-clause-complete : goal.returns-in-Err-clause-complete
returns-in-Err-clause-complete g c base entries log is =
    let n = g.row.N in
    c.memory_or.ensures.memory (c.in-Err.ensures.only_memory (state_of n base entries) (place_of n base entries) false (log_recovers n base entries c.args.bytes.now log is))
