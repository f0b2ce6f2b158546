use Rattle.std.proofs.Common.{length}
use Rattle.commit_log.specs.Entries.{all_chunks}
use Rattle.commit_log.proofs.Checks.{Scans}
use Rattle.commit_log.proofs.check.lists_changes.Given as goal

-- the chunks before those that are left are listed as they should be
abbrev pub invariant-loop-index : goal.invariant-loop-index
invariant-loop-index g l = Scans g.row.N l.current l.change.pruned l.change.len l.from (all_chunks g.row.N l.change.chunks.now) (all_chunks g.row.N l.rest)

abbrev pub decreases-loop-index : goal.decreases-loop-index
decreases-loop-index g l = length l.rest
