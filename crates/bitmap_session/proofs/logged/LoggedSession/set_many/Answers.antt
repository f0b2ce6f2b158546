use Rattle.std.proofs.Common.{refl, subst, sym}
use Rattle.bitmap_session.specs.Logged.{IsLogged, LoggedView}
use Rattle.bitmap_session.proofs.WithEntries.{sets_logged}
use Rattle.bitmap_session.proofs.logged.LoggedSession.set_many.Goals as goal

pub returns-clause-logged : goal.returns-clause-logged
returns-clause-logged g c = λ taken before.
    sets_logged g.row.N taken c.args.positions.now c.args.value _ _ c.set_many.result c.set_many.ensures.all c.set_many.ensures.stopped refl (subst (λ (v : LoggedView). IsLogged g.row.N taken v) (sym c.self.view_is) before)
