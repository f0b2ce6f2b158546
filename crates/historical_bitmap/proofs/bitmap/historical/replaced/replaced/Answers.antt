use Rattle.std.proofs.Common.{arith}
use Rattle.historical_bitmap.proofs.History.Replaced.{pruned_total, retained_count, total_below, total_small}
use Rattle.historical_bitmap.proofs.bitmap.historical.replaced.replaced.Goals as goal

pub overflow_add-count : goal.overflow_add-count
overflow_add-count g c =
    let pos = c.len.ensures.width.positive in
    omega (
      arith,
      retained_count g.row.N c.args.old.now,
      retained_count g.row.N c.args.new.now,
      pruned_total g.row.N c.args.new.now pos,
      total_below g.row.N c.args.old.now c.args.new.now pos c.requires,
      total_small g.row.N c.args.new.now pos,
      c.len.ensures.bound,
    )
