use Rattle.bitmap_bytes.proofs.Counting.Parts.{count_all, count_fits}
use Rattle.bitmap_bytes.proofs.chunk.range.all_ones.Goals as goal

pub count_ones-requires : goal.count_ones-requires
count_ones-requires g c = count_fits g.row.N _ c.args.chunk.now c.told-chunk c.requires.width.fits

pub returns : goal.returns
returns g c = count_all g.row.N _ c.args.chunk.now c.count_ones.result c.told-chunk c.count_ones.ensures
