use Rattle.std.proofs.Common.{true}
use Rattle.bitmap_core.proofs.Found.{next_meant}
use Rattle.bitmap_core.proofs.laws.searches.next_one_is_least.Goals as goal

pub returns : goal.returns
returns g c = next_meant g.row.N (g.B.Readable.meaning c.args.readable.now) true c.args.from c.next_one.result c.next_one.ensures
