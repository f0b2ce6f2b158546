use Rattle.std.proofs.Common.{◌≡◌, map}
use Rattle.historical_bitmap.specs.Edits.{from_to}
use Rattle.historical_bitmap.specs.Record.ChunkDiff.{Added}
use Rattle.historical_bitmap.specs.Replaced.{with_entries}
use Rattle.historical_bitmap.proofs.bitmap.historical.replaced.record_added.Given as goal

abbrev pub invariant-loop-index : goal.invariant-loop-index
invariant-loop-index g l = l.diff ≡ with_entries l.fn.diff (map (λ i. (i, Added)) (from_to l.fn.new.pruned l.index))
