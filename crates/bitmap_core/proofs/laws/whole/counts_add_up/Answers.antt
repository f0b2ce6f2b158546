use Rattle.bitmap_core.proofs.Lists.BitByBit.{counts-sum}
use Rattle.bitmap_core.proofs.laws.whole.counts_add_up.Goals as goal

pub returns-clause-sum : goal.returns-clause-sum
returns-clause-sum g c = counts-sum c.args.bitmap.now _ _ c.count_ones.ensures c.count_zeros.ensures
