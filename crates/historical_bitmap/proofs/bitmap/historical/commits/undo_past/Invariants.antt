use Rattle.std.proofs.Common.{◌≤◌, length}
use Rattle.historical_bitmap.proofs.History.KeptCommits.{LeadsTo}
use Rattle.historical_bitmap.proofs.History.Positions.{from_to}
use Rattle.historical_bitmap.specs.History.{past_number, undone}
use Rattle.historical_bitmap.proofs.bitmap.historical.commits.undo_past.Given as goal

abbrev pub invariant-loop-position : goal.invariant-loop-position
invariant-loop-position g l = record {
  within : l.position ≤ length l.commits;
  leads : LeadsTo g.row.N (from_to l.first l.position l.commits) l.bitmap (undone g.row.N (past_number l.number l.commits) l.fn.bitmap);
}

abbrev pub decreases-loop-position : goal.decreases-loop-position
decreases-loop-position g l = l.position
