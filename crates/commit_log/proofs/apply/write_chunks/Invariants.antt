use Rattle.std.proofs.Common.{length}
use Rattle.commit_log.specs.Entries.{all_chunks}
use Rattle.commit_log.proofs.Making.{WritesOn}
use Rattle.commit_log.proofs.apply.write_chunks.Given as goal

-- the chunks before those that are left are written
abbrev pub invariant-loop-index : goal.invariant-loop-index
invariant-loop-index g l = WritesOn g.row.N l.fn.batch l.batch (all_chunks g.row.N l.chunks) (all_chunks g.row.N l.rest)

abbrev pub decreases-loop-index : goal.decreases-loop-index
decreases-loop-index g l = length l.rest
