use Rattle.std.proofs.Common.{◌≡◌, length}
use Rattle.historical_bitmap.specs.Changes.{changed, listed}
use Rattle.historical_bitmap.specs.View.{pending_of}
use Rattle.authenticated_bitmap.specs.LeafDigests.{HasTreeSize, StoresTree, leaves_in, with_leaves}
use Rattle.authenticated_bitmap.specs.StoredBitmap.{IsOnBaseOf}
use Rattle.authenticated_bitmap.proofs.follow.put_changed.Given as goal

-- if a tree was stored, then one is, and its leaves with the changes that are left are the leaves before with all changes
abbrev pub invariant-loop-next : goal.invariant-loop-next
invariant-loop-next g l =
    let H = g.D.Digest.digest_of l.hash in
    let new = pending_of g.row.N l.prepared.batch in
    HasTreeSize l.next (pending_of 32 l.stored)
    × (StoresTree H l.fn.count (pending_of 32 l.fn.stored) → StoresTree H l.next (pending_of 32 l.stored)
    × (with_leaves H (leaves_in l.next (pending_of 32 l.stored)) l.changes ≡ with_leaves H (leaves_in l.fn.count (pending_of 32 l.fn.stored)) (listed g.row.N new (changed g.row.N l.prepared.batch.current new))))
    × IsOnBaseOf l.fn.stored l.stored

abbrev pub decreases-loop-next : goal.decreases-loop-next
decreases-loop-next g l = length l.changes
