use Rattle.bitmap_core.proofs.Meanings.Pruned.{pruned_shows}
use Rattle.bitmap_core.proofs.bitmap.readable.prunable.PrunableReadable.get_chunk.Goals as goal

pub returns : goal.returns
returns g c = pruned_shows g.row.N c.args.self.now c.args.chunk _ c.len.ensures.width.positive c.get_chunk.ensures
