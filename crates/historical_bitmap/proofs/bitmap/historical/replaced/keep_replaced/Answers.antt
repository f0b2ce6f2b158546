use Rattle.std.proofs.Common.{arith}
use Rattle.historical_bitmap.proofs.History.Replaced.{replaced_sorted}
use Rattle.historical_bitmap.proofs.bitmap.historical.replaced.keep_replaced.Goals as goal

pub append-requires : goal.append-requires
append-requires g c = (omega arith, (omega arith, (c.requires.number, rw c.in_ok-diff.ensures (replaced_sorted g.row.N c.args.old.now c.args.new.now c.len.ensures.width.positive c.requires.pruned))))
