use Rattle.std.proofs.Common.{subst, sym}
use Rattle.std.specs.Prelude.{IfOk}
use Rattle.bitmap_session.specs.Abstraction.{value_of}
use Rattle.bitmap_session.specs.Logged.{IsLogged, LoggedView}
use Rattle.bitmap_session.specs.Machine.{Agrees, StepTo}
use Rattle.bitmap_session.proofs.WithEntries.{ok_weaker, result_logged}
use Rattle.bitmap_session.proofs.logged.LoggedSession.serve.Goals as goal

pub returns-clause-step : goal.returns-clause-step
returns-clause-step g c =
    subst (λ (v : LoggedView). IfOk c.serve_with_entry.result (λ reply. StepTo g.row.N Agrees v.machine c.args.command.now (value_of reply) c.serve_with_entry.new.self)) c.self.view_is
    (ok_weaker c.serve_with_entry.result _ _ (λ reply h. h.step) c.serve_with_entry.ensures.served)

pub returns-clause-logged : goal.returns-clause-logged
returns-clause-logged g c = λ taken before.
    result_logged g.row.N taken _ _ c.args.command.now c.serve_with_entry.result c.serve_with_entry.ensures.served c.serve_with_entry.ensures.unchanged c.serve_with_entry.ensures.unlogged (subst (λ (v : LoggedView). IsLogged g.row.N taken v) (sym c.self.view_is) before)
