use Rattle.std.proofs.Common.{refl, subst, sym}
use Rattle.bitmap_session.specs.Edits.{lengthens, reason_in}
use Rattle.bitmap_session.specs.Logged.{IsLogged, LoggedView}
use Rattle.bitmap_session.proofs.WithEntries.{edits_logged}
use Rattle.bitmap_session.proofs.logged.LoggedSession.extend_to.Goals as goal

pub returns-clause-logged : goal.returns-clause-logged
returns-clause-logged g c = λ taken before.
    edits_logged g.row.N taken _ _ (lengthens g.row.N c.args.len) (reason_in c.extend_to.result) c.extend_to.ensures refl (subst (λ (v : LoggedView). IsLogged g.row.N taken v) (sym c.self.view_is) before)
