use Rattle.std.proofs.Common.{◌∙◌}
use Rattle.bitmap_core.proofs.Found.{selected_again}
use Rattle.bitmap_core.proofs.laws.searches.select_one_undoes_count.Goals as goal

pub returns : goal.returns
returns g c =
    c.select_one.ensures
    ∙ selected_again g.row.N (g.B.Readable.meaning c.args.readable.now) c.args.position c.count_ones_range-below.result c.requires.retained c.requires.set
    c.count_ones_range-below.ensures
