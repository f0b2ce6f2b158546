use Rattle.std.proofs.Common.{ℕ, ◌-◌, ◌<◌, ◌≤◌, length, get_or}
use Rattle.std.specs.Map.{keys_of}
use Rattle.historical_bitmap.specs.Stored.{entry_values}
use Rattle.historical_bitmap.proofs.bitmap.historical.record.next_entry.Given as goal

abbrev pub invariant-loop-start : goal.invariant-loop-start
invariant-loop-start g l = record {
  order : l.start ≤ l.end;
  within : l.end ≤ length l.entries;
  less : (j : ℕ) → j < l.start → get_or (keys_of (entry_values l.entries)) j 0 < l.from;
  more : (j : ℕ) → l.end ≤ j → j < length l.entries → l.from ≤ get_or (keys_of (entry_values l.entries)) j 0;
}

abbrev pub decreases-loop-start : goal.decreases-loop-start
decreases-loop-start g l = l.end - l.start
