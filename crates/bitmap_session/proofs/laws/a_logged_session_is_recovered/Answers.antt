use Rattle.std.proofs.Common.{◌∙◌}
use Rattle.commit_log.proofs.Recovering.{log_recovers}
use Rattle.bitmap_session.proofs.laws.a_logged_session_is_recovered.Goals as goal

pub returns-clause-complete : goal.returns-clause-complete
returns-clause-complete g c = λ taken h is.
    c.recover.ensures.only_memory _ _ _ (log_recovers g.row.N h.base h.entries c.args.bytes.now h.log (is ∙ h.bytes))
