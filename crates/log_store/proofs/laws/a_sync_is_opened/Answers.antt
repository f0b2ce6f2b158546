use Rattle.std.proofs.Common.{Result, Ok, Err, IfOk, IfErr, ◌+◌, ◌++◌, length}
use Rattle.std.specs.Prelude.{MatchResult}
use Rattle.log_store.proofs.laws.a_sync_is_opened.Goals as goal

both : {A E : Type 0} (r : Result A E) (P : A → Type 0) (Q : E → Type 0) → IfOk r P → IfErr r Q → MatchResult r P Q
both (Ok x) P Q p q = p
both (Err e) P Q p q = q

pub returns : goal.returns
returns g c base begun waiting further kept now later h calls left rest =
    let entries = (begun ++ waiting) ++ further in
    let kept_now = kept + length waiting in
    let done = calls (c.in_default.ensures.empty base begun waiting kept h) in
    let torn = done.any_moment.each (g.D.Device.seen c.args.device) left in
    both c.open.result _ _ (c.open.ensures.opened base entries kept_now rest done.stored.log_is torn)
    (c.open.ensures.complete base entries kept_now rest done.stored.log_is torn)
