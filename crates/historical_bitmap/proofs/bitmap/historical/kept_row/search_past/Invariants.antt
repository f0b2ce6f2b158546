use Rattle.std.proofs.Common.{ℕ, ◌-◌, ◌<◌, ◌≤◌, length, get_or}
use Rattle.std.specs.Map.{keys_of}
use Rattle.historical_bitmap.proofs.bitmap.historical.kept_row.search_past.Given as goal

abbrev pub invariant-loop-start : goal.invariant-loop-start
invariant-loop-start g l = record {
  order : l.start ≤ l.end;
  within : l.end ≤ length l.bytes.items;
  earlier : (j : ℕ) → j < l.start → get_or (keys_of l.bytes.items) j 0 ≤ l.number;
  later : (j : ℕ) → l.end ≤ j → j < length l.bytes.items → l.number < get_or (keys_of l.bytes.items) j 0;
}

abbrev pub decreases-loop-start : goal.decreases-loop-start
decreases-loop-start g l = l.end - l.start
