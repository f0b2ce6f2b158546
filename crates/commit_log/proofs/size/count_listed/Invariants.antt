use Rattle.std.proofs.Common.{◌≡◌, ◌+◌, ◌^◌, ◌<◌, length}
use Rattle.historical_bitmap.specs.Changes.{listed}
use Rattle.commit_log.proofs.size.count_listed.Given as goal

-- the chunks that are counted, and those that are left, are all chunks
abbrev pub invariant-loop-chunk : goal.invariant-loop-chunk
invariant-loop-chunk g l = (l.count + length (listed g.row.N l.newer l.changes) ≡ length (listed g.row.N l.newer l.fn.changes)) × (length (listed g.row.N l.newer l.fn.changes) < 2 ^ 64)

abbrev pub decreases-loop-chunk : goal.decreases-loop-chunk
decreases-loop-chunk g l = length l.changes
