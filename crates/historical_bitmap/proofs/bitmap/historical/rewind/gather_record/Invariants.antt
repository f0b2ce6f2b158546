use Rattle.std.proofs.Common.{drop}
use Rattle.historical_bitmap.specs.Stored.{entry_values}
use Rattle.historical_bitmap.proofs.History.Rewound.{EntriesLeft}
use Rattle.historical_bitmap.proofs.bitmap.historical.rewind.gather_record.Given as goal

abbrev pub invariant-loop-entry : goal.invariant-loop-entry
invariant-loop-entry g l = EntriesLeft (entry_values (drop l.entry-index l.entries)) (entry_values l.entries) l.first l.end l.fn.chunks.entries l.chunks.entries
