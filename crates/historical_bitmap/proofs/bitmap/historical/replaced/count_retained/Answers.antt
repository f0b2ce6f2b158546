use Rattle.std.proofs.Common.{arith}
use Rattle.historical_bitmap.proofs.History.Replaced.{retained_count}
use Rattle.historical_bitmap.proofs.bitmap.historical.replaced.count_retained.Goals as goal

pub returns : goal.returns
returns g c = omega (arith, retained_count g.row.N c.args.bitmap.now, c.chunks_len.ensures.value, c.pruned_chunks.ensures)
