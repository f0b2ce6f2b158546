use Rattle.std.proofs.Common.{refl, subst, sym}
use Rattle.bitmap_session.specs.Edits.{reason_in, sets_chunk}
use Rattle.bitmap_session.specs.Logged.{IsLogged, LoggedView}
use Rattle.bitmap_session.proofs.WithEntries.{edits_logged}
use Rattle.bitmap_session.proofs.logged.LoggedSession.set_chunk.Goals as goal

pub returns-clause-logged : goal.returns-clause-logged
returns-clause-logged g c = λ taken before.
    edits_logged g.row.N taken _ _ (sets_chunk g.row.N c.args.index c.args.bytes.now) (reason_in c.set_chunk.result) c.set_chunk.ensures refl (subst (λ (v : LoggedView). IsLogged g.row.N taken v) (sym c.self.view_is) before)
