use Rattle.std.proofs.Common.{refl, subst, sym}
use Rattle.bitmap_session.specs.Edits.{reason_in, sets_range}
use Rattle.bitmap_session.specs.Logged.{IsLogged, LoggedView}
use Rattle.bitmap_session.proofs.WithEntries.{edits_logged}
use Rattle.bitmap_session.proofs.logged.LoggedSession.set_range.Goals as goal

pub returns-clause-logged : goal.returns-clause-logged
returns-clause-logged g c = λ taken before.
    edits_logged g.row.N taken _ _ (sets_range g.row.N c.args.start c.args.end c.args.value) (reason_in c.set_range.result) c.set_range.ensures refl (subst (λ (v : LoggedView). IsLogged g.row.N taken v) (sym c.self.view_is) before)
