use Rattle.std.proofs.Common.{false}
use Rattle.bitmap_core.proofs.Found.{previous_meant}
use Rattle.bitmap_core.proofs.laws.searches.prev_zero_is_greatest.Goals as goal

pub returns : goal.returns
returns g c = previous_meant g.row.N (g.B.Readable.meaning c.args.readable.now) false c.args.end c.prev_zero.result c.prev_zero.ensures
