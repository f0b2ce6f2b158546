use Rattle.std.proofs.Common.{[]}
use Rattle.historical_bitmap.specs.Lengths.{JoinsChunks}
use Rattle.historical_bitmap.proofs.bitmap.historical.joined.join_each.Given as goal

abbrev pub invariant-loop-index : goal.invariant-loop-index
invariant-loop-index g l = JoinsChunks g.row.N (λ q. []) l.fn.chunks l.chunks l.fn.first l.index l.fn.len l.fn.bits
