use Rattle.std.proofs.Common.{◌≡◌, ◌-◌, ◌≤◌, drop, length}
use Rattle.std.specs.Map.{keys_of}
use Rattle.bitmap_core.specs.PrunedBits.{truncated}
use Rattle.historical_bitmap.specs.Pending.{pending_bits}
use Rattle.historical_bitmap.specs.Prepared.{changes_in}
use Rattle.historical_bitmap.specs.Stored.{entry_values}
use Rattle.historical_bitmap.proofs.bitmap.historical.prepared_changes.next_change.Given as goal

-- no change is listed of the chunks before this place
abbrev pub invariant-loop-at : goal.invariant-loop-at
invariant-loop-at g l =
    let old = truncated g.row.N l.grown l.old_len in
    let new = pending_bits g.row.N old l.edits in
    let keys = keys_of (entry_values l.entries) in
    record {
      same : changes_in g.row.N old new (drop l.fn.at keys) ≡ changes_in g.row.N old new (drop l.at keys);
      within : l.at ≤ length l.entries;
    }

abbrev pub decreases-loop-at : goal.decreases-loop-at
decreases-loop-at g l = length l.entries - l.at
