use Rattle.std.proofs.Common.{arith}
use Rattle.bitmap_core.proofs.Found.{split_count}
use Rattle.bitmap_core.proofs.laws.searches.split_counts_add_up.Goals as goal

pub returns-clause-sum : goal.returns-clause-sum
returns-clause-sum g c =
    let m = g.B.Readable.meaning c.args.readable.now in
    let s = split_count g.row.N m c.args.from c.args.middle c.args.to c.requires.low c.requires.high in
    omega (arith, s, c.count_ones_range-all.ensures, c.count_ones_range-low.ensures, c.count_ones_range-high.ensures)
