use Rattle.bitmap_session.proofs.Steps.{aborted}
use Rattle.bitmap_session.proofs.session.dirty.abort.Goals as goal

pub returns : goal.returns
returns g c = rw c.abort.ensures (aborted g.row.N c.args.bitmap)
