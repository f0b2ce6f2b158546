use Rattle.std.proofs.Common.{⊎_elim, Result, Ok, Err, IfOk, IfErr, length, refl, ap, sym, ◌∙◌, arith}
use Rattle.std.specs.Prelude.{MatchResult}
use Rattle.std.proofs.lemmas.List.{take_all}
use Rattle.commit_log.specs.History.{history_base, history_entries}
use Rattle.commit_log.specs.Logs.{state_of}
use Rattle.log_store.proofs.Compactions.{opens_same}
use Rattle.log_store.proofs.Reopening.{whole_torn}
use Rattle.log_store.proofs.laws.a_compaction_is_opened.Goals as goal

-- of what was found, more, and of an error
both : {A E : Type 0} (r : Result A E) (O P : A → Type 0) (Q : E → Type 0) → ((x : A) → O x → P x) → IfOk r O → IfErr r Q → MatchResult r P Q
both (Ok x) O P Q f p q = f x p
both (Err e) O P Q f p q = q

pub returns : goal.returns
returns g c base begun kept state h writes moments left rest =
    let n = g.row.N in
    let seen = g.D.Device.seen c.args.device in
    let laws = c.a_compacted_log_makes_each_state.ensures in
    let w = h.written writes in
    let base_now = history_base state in
    let entries_now = history_entries n state in
    ⊎_elim
    (λ torn. both c.open.result _ _ _
    (λ store opened. opens_same n g.D.Device base begun kept _ store.log w.0 opened ∙ ap (state_of n base) (sym (take_all kept begun (omega (arith, w.0)))) ∙ sym h.state_is)
    (c.open.ensures.opened base begun kept rest h.log_is torn) (c.open.ensures.complete base begun kept rest h.log_is torn))
    (λ new.
    let log_now = laws.is_log n state c.requires.positive new.0 in
    let torn = whole_torn n base_now entries_now (length entries_now) seen (omega arith) new.2 in
    both c.open.result _ _ _
    (λ store opened. opens_same n g.D.Device base_now entries_now (length entries_now) _ store.log refl opened ∙ laws.made n state c.requires.positive new.1)
    (c.open.ensures.opened base_now entries_now (length entries_now) rest log_now torn) (c.open.ensures.complete base_now entries_now (length entries_now) rest log_now torn))
    (moments.each seen left)
