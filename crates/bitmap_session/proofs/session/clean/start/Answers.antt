use Rattle.std.proofs.Common.{refl}
use Rattle.bitmap_session.proofs.Steps.{not_started, started}
use Rattle.bitmap_session.proofs.session.clean.start.Goals as goal

pub returns-in-Ok : goal.returns-in-Ok
returns-in-Ok g c = rw c.in-Ok.ensures.ok (started g.row.N c.args.chunks c.args.bitmap (c.in-Ok.ensures.exact.0 refl))

pub returns-in-Err : goal.returns-in-Err
returns-in-Err g c = not_started g.row.N c.args.chunks c.args.bitmap c.in-Err.ensures.exact.1
