use Rattle.std.proofs.Common.{◌≡◌, ◌-◌, ◌≤◌}
use Rattle.historical_bitmap.specs.Changes.{changed_from}
use Rattle.historical_bitmap.specs.Pending.{pending_bits}
use Rattle.historical_bitmap.proofs.bitmap.historical.pending_changes.next_pending.Given as goal

abbrev pub invariant-loop-chunk : goal.invariant-loop-chunk
invariant-loop-chunk g l = record {
  same : changed_from g.row.N l.current (pending_bits g.row.N l.current l.edits) l.at l.end ≡ changed_from g.row.N l.current (pending_bits g.row.N l.current l.edits) l.first l.end;
  after : l.first ≤ l.at;
}

abbrev pub decreases-loop-chunk : goal.decreases-loop-chunk
decreases-loop-chunk g l = l.end - l.at
