use Rattle.std.proofs.Common.{◌≤◌, drop, length}
use Rattle.historical_bitmap.proofs.History.Positions.{from_to}
use Rattle.historical_bitmap.proofs.History.Rewound.{RecordsLeft}
use Rattle.historical_bitmap.proofs.bitmap.historical.rewind.gather.Given as goal

abbrev pub invariant-loop-position : goal.invariant-loop-position
invariant-loop-position g l = record {
  within : l.position ≤ length l.commits;
  left : RecordsLeft (from_to l.past l.position l.commits) (drop l.past l.commits) l.first l.end l.chunks.entries;
}

abbrev pub decreases-loop-position : goal.decreases-loop-position
decreases-loop-position g l = l.position
