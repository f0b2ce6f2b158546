use Rattle.historical_bitmap.specs.Pending.{AreMissing}
use Rattle.historical_bitmap.proofs.bitmap.historical.ranges.missing.Given as goal

abbrev pub invariant-loop-index : goal.invariant-loop-index
invariant-loop-index g l = AreMissing l.fn.chunks l.fn.first l.index l.indices.items
