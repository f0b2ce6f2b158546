use Rattle.std.proofs.Common.{◌≡◌, map}
use Rattle.bitmap_core.specs.PrunedBits.{chunk}
use Rattle.historical_bitmap.specs.Edits.{from_to}
use Rattle.historical_bitmap.specs.Record.ChunkDiff.{Pruned}
use Rattle.historical_bitmap.specs.Replaced.{with_entries}
use Rattle.historical_bitmap.proofs.bitmap.historical.replaced.record_pruned.Given as goal

abbrev pub invariant-loop-index : goal.invariant-loop-index
invariant-loop-index g l = l.diff ≡ with_entries l.fn.diff (map (λ i. (i, Pruned (chunk g.row.N l.fn.old i))) (from_to l.fn.old.pruned l.index))
