use Rattle.std.proofs.Common.{Result, Ok, Err, IfOk, IfErr, length}
use Rattle.std.specs.Prelude.{MatchResult}
use Rattle.commit_log.specs.Logs.{entries_in}
use Rattle.log_store.proofs.Prefixes.{opens_with}
use Rattle.log_store.proofs.laws.a_prefix_is_opened.Goals as goal

-- of what was found, more, and of an error
both : {A E : Type 0} (r : Result A E) (O P : A → Type 0) (Q : E → Type 0) → ((x : A) → O x → P x) → IfOk r O → IfErr r Q → MatchResult r P Q
both (Ok x) O P Q f p q = f x p
both (Err e) O P Q f p q = q

pub returns : goal.returns
returns g c base entries m h rest =
    let n = g.row.N in
    let whole = entries_in m n base entries in
    let torn = c.any_prefix_is_a_torn_log.ensures n base entries m (g.D.Device.seen c.args.device) h in
    both c.open.result _ _ _
    (λ store opened. opens_with n g.D.Device base whole _ store.log opened)
    (c.open.ensures.opened base whole (length whole) rest torn.0 torn.1) (c.open.ensures.complete base whole (length whole) rest torn.0 torn.1)
