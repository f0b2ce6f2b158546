use Rattle.std.proofs.Common.{⊎_elim, Result, Ok, Err, IfOk, IfErr, refl, subst, sym, ◌∙◌, arith}
use Rattle.commit_log.specs.Kept.{kept_of}
use Rattle.commit_log.specs.Recovered.{IsRecoverError}
use Rattle.log_store.proofs.Left.{first_before_gate, gate_reads, left_good, left_memory, left_state, reads_within}
use Rattle.log_store.proofs.recovering.recover_left.Goals as goal

-- of what was found, more
more_ok : {A E : Type 0} (r : Result A E) (P Q : A → Type 0) → ((x : A) → P x → Q x) → IfOk r P → IfOk r Q
more_ok (Ok x) P Q f p = f x p
more_ok (Err e) P Q f p = tt

-- of an error, more
more_err : {A E : Type 0} (r : Result A E) (P Q : E → Type 0) → ((e : E) → P e → Q e) → IfErr r P → IfErr r Q
more_err (Ok x) P Q f p = tt
more_err (Err e) P Q f p = f e p

pub returns-in-Ok-clause-left : goal.returns-in-Ok-clause-left
returns-in-Ok-clause-left g c base entries rest log is unfinished =
    let found = c.in-Ok.found in
    let same = left_state g.row.N base entries rest c.args.bytes.now (kept_of g.row.N found.bitmap) found.log.place found.torn c.requires.positive log is unfinished c.in-Ok.ensures.state in
    (same.0, c.place_after.ensures ∙ same.1)

pub returns-in-Some-clause-state : goal.returns-in-Some-clause-state
returns-in-Some-clause-state g c =
    more_ok c.recover_whole.result _ _ (λ found h. gate_reads g.row.N c.args.bytes.now c.in-Some.good.now (kept_of g.row.N found.0) found.1 c.in-Some.ensures.found h) c.recover_whole.ensures.state

pub returns-in-Some-clause-good : goal.returns-in-Some-clause-good
returns-in-Some-clause-good g c =
    more_ok c.recover_whole.result _ _ (λ found h. reads_within g.row.N c.args.bytes.now (kept_of g.row.N found.0) found.1 (gate_reads g.row.N c.args.bytes.now c.in-Some.good.now (kept_of g.row.N found.0) found.1 c.in-Some.ensures.found h))
    c.recover_whole.ensures.state

pub returns-in-Some-clause-cause : goal.returns-in-Some-clause-cause
returns-in-Some-clause-cause g c =
    let n = g.row.N in
    let bytes = c.args.bytes.now in
    more_err c.recover_whole.result _ _
    (λ e why. ⊎_elim (λ first. subst (IsRecoverError n bytes) (sym first) c.in-Err.ensures.cause) (λ both. subst (IsRecoverError n bytes) (sym both.0) (first_before_gate n bytes c.in-Some.good.now (λ i. omega (arith, c.type_inv.bytes i)) (omega arith) c.in-Some.ensures.found both.1)) why) c.recover_whole.ensures.cause

pub returns-in-Some-clause-left : goal.returns-in-Some-clause-left
returns-in-Some-clause-left g c base entries rest log is unfinished =
    c.recover_whole.ensures.log base entries log (left_good g.row.N base entries rest c.args.bytes.now c.in-Some.good.now log is unfinished c.in-Some.ensures.found)

pub returns-in-Some-clause-complete : goal.returns-in-Some-clause-complete
returns-in-Some-clause-complete g c base entries rest log is unfinished =
    c.recover_whole.ensures.complete base entries log (left_good g.row.N base entries rest c.args.bytes.now c.in-Some.good.now log is unfinished c.in-Some.ensures.found)

pub returns-in-None-clause-complete : goal.returns-in-None-clause-complete
returns-in-None-clause-complete g c base entries rest log is unfinished =
    left_memory g.row.N base entries rest c.args.bytes.now c.in-Err.error log is unfinished (c.in-None.ensures.none refl) (λ state place torn r. c.in-Err.ensures.only_memory state place torn r)
