use Rattle.bitmap_session.proofs.Steps.{len_shown}
use Rattle.bitmap_session.proofs.session.dirty.len.Goals as goal

pub returns : goal.returns
returns g c = len_shown g.row.N _ c.args.bitmap.now c.len.ensures.value
