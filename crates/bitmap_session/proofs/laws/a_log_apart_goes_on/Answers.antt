use Rattle.bitmap_session.proofs.WithEntries.{result_logged}
use Rattle.bitmap_session.proofs.laws.a_log_apart_goes_on.Goals as goal

pub returns : goal.returns
returns g c = λ taken before.
    result_logged g.row.N taken _ _ c.args.command.now c.serve_with_entry.result c.serve_with_entry.ensures.served c.serve_with_entry.ensures.unchanged c.serve_with_entry.ensures.unlogged before
