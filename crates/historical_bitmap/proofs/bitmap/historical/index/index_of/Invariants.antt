use Rattle.std.proofs.Common.{take}
use Rattle.historical_bitmap.specs.Index.{IsIndexOf}
use Rattle.historical_bitmap.proofs.bitmap.historical.index.index_of.Given as goal

abbrev pub invariant-loop-position : goal.invariant-loop-position
invariant-loop-position g l = IsIndexOf l.index (take l.position l.commits.items)
