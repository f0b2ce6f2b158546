use Rattle.std.proofs.Common.{[]}
use Rattle.historical_bitmap.specs.Pending.{SetsChunks}
use Rattle.historical_bitmap.proofs.bitmap.historical.ranges.fill.Given as goal

abbrev pub invariant-loop-index : goal.invariant-loop-index
invariant-loop-index g l = SetsChunks g.row.N (λ q. []) l.fn.chunks l.chunks l.fn.first l.index l.fn.from l.fn.to l.fn.value
