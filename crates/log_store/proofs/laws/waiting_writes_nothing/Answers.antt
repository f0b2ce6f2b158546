use Rattle.std.proofs.Common.{Result, Ok, Err, IfOk, IfErr, ℕ, length, subst}
use Rattle.std.specs.Prelude.{MatchResult}
use Rattle.log_store.specs.Store.{IsTornLog}
use Rattle.log_store.specs.declared.stored_log.StoredLog.{StoredLog}
use Rattle.log_store.proofs.Prefixes.{opens_with}
use Rattle.log_store.proofs.laws.waiting_writes_nothing.Goals as goal

-- of what was found, more, and of an error
both : {A E : Type 0} (r : Result A E) (O P : A → Type 0) (Q : E → Type 0) → ((x : A) → O x → P x) → IfOk r O → IfErr r Q → MatchResult r P Q
both (Ok x) O P Q f p q = f x p
both (Err e) O P Q f p q = q

pub returns : goal.returns
returns g c base begun waiting kept state h writes same left rest =
    let n = g.row.N in
    let seen = g.D.Device.seen c.args.device in
    let old = c.args.old.now.log in
    let there = subst (λ (l : StoredLog g.row.D.Denot). g.D.Device.left_since l.device (g.D.Device.moment old.device) seen) same left in
    let torn : IsTornLog n base begun (length begun) seen = subst (λ (k : ℕ). IsTornLog n base begun k seen) (h.stored.written writes).0 (h.stored.crash seen (g.met.D.Device.only_now old.device seen h.stored.works there)) in
    both c.open.result _ _ _
    (λ store opened. opens_with n g.D.Device base begun _ store.log opened)
    (c.open.ensures.opened base begun (length begun) rest h.stored.log_is torn) (c.open.ensures.complete base begun (length begun) rest h.stored.log_is torn)
