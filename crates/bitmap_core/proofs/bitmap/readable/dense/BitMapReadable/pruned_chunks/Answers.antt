use Rattle.bitmap_core.proofs.Meanings.Plain.{plain_lawful}
use Rattle.bitmap_core.proofs.bitmap.readable.dense.BitMapReadable.pruned_chunks.Goals as goal

pub returns-clause-lawful : goal.returns-clause-lawful
returns-clause-lawful g c = plain_lawful g.row.N c.args.self.now c.len.ensures.width.positive c.len.ensures.width.fits c.len.ensures.bound
