use Rattle.bitmap_session.proofs.WithEntries.{delta_logged}
use Rattle.bitmap_session.proofs.laws.a_log_apart_goes_on_with_a_delta.Goals as goal

pub returns : goal.returns
returns g c = λ taken before.
    delta_logged g.row.N taken c.args.bytes.now _ _ c.apply_delta_with_entry.result c.apply_delta_with_entry.ensures before
