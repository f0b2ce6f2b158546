use Rattle.std.proofs.Common.{◌≡◌, ◌++◌, length}
use Rattle.std.specs.List.{flat_map}
use Rattle.historical_bitmap.specs.Changes.{changed, listed}
use Rattle.historical_bitmap.specs.View.{pending_of}
use Rattle.commit_log.specs.Entries.{encode_chunk}
use Rattle.log_store.proofs.encoding.push_changed.Given as goal

-- what is written, and the chunks that are left, are all chunks
abbrev pub invariant-loop-chunk : goal.invariant-loop-chunk
invariant-loop-chunk g l =
    let new = pending_of g.row.N l.batch in
    l.out.items ++ flat_map encode_chunk (listed g.row.N new l.changes) ≡ l.fn.out.items ++ flat_map encode_chunk (listed g.row.N new (changed g.row.N l.batch.current new))

abbrev pub decreases-loop-chunk : goal.decreases-loop-chunk
decreases-loop-chunk g l = length l.changes
