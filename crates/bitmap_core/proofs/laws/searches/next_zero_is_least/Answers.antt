use Rattle.std.proofs.Common.{false}
use Rattle.bitmap_core.proofs.Found.{next_meant}
use Rattle.bitmap_core.proofs.laws.searches.next_zero_is_least.Goals as goal

pub returns : goal.returns
returns g c = next_meant g.row.N (g.B.Readable.meaning c.args.readable.now) false c.args.from c.next_zero.result c.next_zero.ensures
