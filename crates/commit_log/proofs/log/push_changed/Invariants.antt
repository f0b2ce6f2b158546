use Rattle.std.proofs.Common.{◌≡◌, ◌++◌, length}
use Rattle.std.specs.List.{flat_map}
use Rattle.historical_bitmap.specs.Changes.{changed, listed}
use Rattle.historical_bitmap.specs.View.{pending_of}
use Rattle.commit_log.specs.Entries.{encode_chunk}
use Rattle.commit_log.proofs.log.push_changed.Given as goal

-- what is written, and the changes that are left, are all changes
abbrev pub invariant-loop-change : goal.invariant-loop-change
invariant-loop-change g l =
    let new = pending_of g.row.N l.prepared.batch in
    l.out.items ++ flat_map encode_chunk l.changes ≡ l.fn.out.items ++ flat_map encode_chunk (listed g.row.N new (changed g.row.N l.prepared.batch.current new))

abbrev pub decreases-loop-change : goal.decreases-loop-change
decreases-loop-change g l = length l.changes
