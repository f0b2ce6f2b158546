use Rattle.std.proofs.Common.{Result, Ok, Err, IfOk, IfErr, ◌++◌}
use Rattle.std.specs.Prelude.{MatchResult}
use Rattle.log_store.proofs.laws.a_crash_is_opened.Goals as goal

both : {A E : Type 0} (r : Result A E) (P : A → Type 0) (Q : E → Type 0) → IfOk r P → IfErr r Q → MatchResult r P Q
both (Ok x) P Q p q = p
both (Err e) P Q p q = q

pub returns : goal.returns
returns g c base begun further kept now state h left rest =
    let entries = begun ++ further in
    let within = h.any_moment.each (g.D.Device.seen c.args.device) left in
    both c.open.result _ _ (c.open.ensures.opened base entries kept rest h.stored.log_is within)
    (c.open.ensures.complete base entries kept rest h.stored.log_is within)
