use Rattle.std.proofs.Common.{true}
use Rattle.bitmap_core.proofs.Found.{previous_meant}
use Rattle.bitmap_core.proofs.laws.searches.prev_one_is_greatest.Goals as goal

pub returns : goal.returns
returns g c = previous_meant g.row.N (g.B.Readable.meaning c.args.readable.now) true c.args.end c.prev_one.result c.prev_one.ensures
