use Rattle.std.proofs.Common.{◌≡◌, ◌-◌, ◌++◌, replicate}
use Rattle.historical_bitmap.specs.View.{pending_of}
use Rattle.authenticated_bitmap.specs.LeafDigests.{HasTreeSize, StoresTree, leaves_in, zero_leaf}
use Rattle.authenticated_bitmap.specs.StoredBitmap.{IsOnBaseOf}
use Rattle.authenticated_bitmap.proofs.follow.append_zeros.Given as goal

-- if a tree was stored, it is stored with one more zero leaf for each turn
abbrev pub invariant-loop-count : goal.invariant-loop-count
invariant-loop-count g l =
    let H = g.D.Digest.digest_of l.hash in
    HasTreeSize l.count (pending_of 32 l.stored)
    × (StoresTree H l.from (pending_of 32 l.fn.stored) → StoresTree H l.count (pending_of 32 l.stored) × (leaves_in l.count (pending_of 32 l.stored) ≡ leaves_in l.from (pending_of 32 l.fn.stored) ++ replicate (l.count - l.from) (zero_leaf H g.row.N)))
    × IsOnBaseOf l.fn.stored l.stored
