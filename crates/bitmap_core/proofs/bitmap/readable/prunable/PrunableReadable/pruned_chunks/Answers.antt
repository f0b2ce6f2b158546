use Rattle.bitmap_core.proofs.Meanings.Pruned.{pruned_lawful}
use Rattle.bitmap_core.proofs.bitmap.readable.prunable.PrunableReadable.pruned_chunks.Goals as goal

pub returns-clause-lawful : goal.returns-clause-lawful
returns-clause-lawful g c = pruned_lawful g.row.N c.args.self.now c.len.ensures.width.positive c.len.ensures.width.fits c.len.ensures.bound
