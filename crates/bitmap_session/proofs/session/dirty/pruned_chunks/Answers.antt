use Rattle.bitmap_session.proofs.Steps.{pruned_chunks_shown}
use Rattle.bitmap_session.proofs.session.dirty.pruned_chunks.Goals as goal

pub returns : goal.returns
returns g c = pruned_chunks_shown g.row.N _ c.args.bitmap.now c.pruned_chunks.ensures
