use Rattle.bitmap_session.proofs.Steps.{not_committed, was_committed}
use Rattle.std.proofs.Common.{refl}
use Rattle.bitmap_session.proofs.session.dirty.commit.Goals as goal

pub returns-in-Ok : goal.returns-in-Ok
returns-in-Ok g c =
    let done = c.in-Ok.ensures in
    was_committed g.row.N c.args.number c.args.bitmap c.in-Ok.bitmap done.accepted done.current done.history done.last done.costs

pub returns-in-Err : goal.returns-in-Err
returns-in-Err g c =
    rw (c.from.ensures, c.in-Err.ensures.refused, c.in-Err.ensures.unchanged) (not_committed g.row.N c.args.number c.args.bitmap _ refl)
