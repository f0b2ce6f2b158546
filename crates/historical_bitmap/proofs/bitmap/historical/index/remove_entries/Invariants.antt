use Rattle.std.proofs.Common.{take}
use Rattle.historical_bitmap.specs.Index.{RemovesPlaces}
use Rattle.historical_bitmap.specs.Stored.{entry_values}
use Rattle.historical_bitmap.proofs.bitmap.historical.index.remove_entries.Given as goal

abbrev pub invariant-loop-entry : goal.invariant-loop-entry
invariant-loop-entry g l = RemovesPlaces l.number (entry_values (take l.entry-index l.entries)) l.fn.index l.index
