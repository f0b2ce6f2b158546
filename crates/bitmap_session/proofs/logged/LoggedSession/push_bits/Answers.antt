use Rattle.std.proofs.Common.{refl, subst, sym}
use Rattle.bitmap_session.specs.Edits.{appends_bits, reason_in}
use Rattle.bitmap_session.specs.Logged.{IsLogged, LoggedView}
use Rattle.bitmap_session.proofs.WithEntries.{edits_logged}
use Rattle.bitmap_session.proofs.logged.LoggedSession.push_bits.Goals as goal

pub returns-clause-logged : goal.returns-clause-logged
returns-clause-logged g c = λ taken before.
    edits_logged g.row.N taken _ _ (appends_bits g.row.N c.args.bits.now) (reason_in c.push_bits.result) c.push_bits.ensures refl (subst (λ (v : LoggedView). IsLogged g.row.N taken v) (sym c.self.view_is) before)
