use Rattle.std.proofs.Common.{◌≡◌, ◌++◌, length}
use Rattle.std.specs.List.{flat_map}
use Rattle.commit_log.specs.Entries.{encode_chunk}
use Rattle.historical_bitmap.specs.Changes.{listed}
use Rattle.commit_log.proofs.change.push_chunks.Given as goal

-- what is appended, and the chunks that are left, are all chunks
abbrev pub invariant-loop-chunk : goal.invariant-loop-chunk
invariant-loop-chunk g l = l.out.items ++ flat_map encode_chunk (listed g.row.N l.newer l.changes) ≡ l.fn.out.items ++ flat_map encode_chunk (listed g.row.N l.newer l.fn.changes)

abbrev pub decreases-loop-chunk : goal.decreases-loop-chunk
decreases-loop-chunk g l = length l.changes
