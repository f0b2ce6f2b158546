use Rattle.std.proofs.Common.{◌++◌}
use Rattle.log_store.proofs.Reopening.{recovers_to}
use Rattle.log_store.proofs.laws.a_crash_keeps_what_is_kept.Goals as goal

pub returns : goal.returns
returns g c base begun further kept now state h bytes left =
    recovers_to g.row.N base (begun ++ further) kept bytes h.stored.log_is (h.any_moment.each bytes left)
