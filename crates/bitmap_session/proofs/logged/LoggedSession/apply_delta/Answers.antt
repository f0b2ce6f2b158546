use Rattle.std.proofs.Common.{subst, sym}
use Rattle.bitmap_session.specs.Logged.{IsLogged, LoggedView}
use Rattle.bitmap_session.proofs.WithEntries.{delta_logged}
use Rattle.bitmap_session.proofs.logged.LoggedSession.apply_delta.Goals as goal

pub returns-clause-logged : goal.returns-clause-logged
returns-clause-logged g c = λ taken before.
    delta_logged g.row.N taken c.args.bytes.now _ _ c.apply_delta_with_entry.result c.apply_delta_with_entry.ensures (subst (λ (v : LoggedView). IsLogged g.row.N taken v) (sym c.self.view_is) before)
