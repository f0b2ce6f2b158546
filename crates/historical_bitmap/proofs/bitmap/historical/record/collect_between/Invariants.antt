use Rattle.std.proofs.Common.{◌≡◌, ◌++◌, take}
use Rattle.historical_bitmap.specs.Stored.{entry_values}
use Rattle.historical_bitmap.specs.Undo.{kept_between}
use Rattle.historical_bitmap.proofs.bitmap.historical.record.collect_between.Given as goal

abbrev pub invariant-loop-entry : goal.invariant-loop-entry
invariant-loop-entry g l = l.chunks.items ≡ l.fn.chunks.items ++ kept_between l.from l.to (entry_values (take l.entry-index l.entries))
