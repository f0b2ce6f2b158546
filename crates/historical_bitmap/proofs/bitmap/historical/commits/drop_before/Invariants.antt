use Rattle.std.proofs.Common.{length}
use Rattle.historical_bitmap.proofs.History.Ends.{LeavesFrom}
use Rattle.historical_bitmap.proofs.bitmap.historical.commits.drop_before.Given as goal

abbrev pub invariant-loop-first : goal.invariant-loop-first
invariant-loop-first g l = LeavesFrom l.number l.fn.commits l.commits

abbrev pub decreases-loop-first : goal.decreases-loop-first
decreases-loop-first g l = length l.commits
