use Rattle.historical_bitmap.specs.Changes.{changed, listed}
use Rattle.historical_bitmap.specs.View.{pending_of}
use Rattle.authenticated_bitmap.specs.LeafDigests.{leaves_in, with_leaves}
use Rattle.authenticated_bitmap.proofs.StoredLeaves.{base_then, change_put}
use Rattle.authenticated_bitmap.proofs.follow.put_changed.Goals as goal

pub loop-next-preserved : goal.loop-next-preserved
loop-next-preserved g c =
    let H = g.D.Digest.digest_of c.args.hash.now in
    let new = pending_of g.row.N c.args.prepared.now.batch in
    let all = with_leaves H (leaves_in c.args.count (pending_of 32 c.args.stored.now)) (listed g.row.N new (changed g.row.N c.args.prepared.now.batch.current new)) in (
      c.in_ok-next.ensures.size,
      λ tree.
          let before = c.loop-next.invariant.1 tree in (
            c.in_ok-next.ensures.tree before.0,
            change_put H (leaves_in c.loop-next.next (pending_of 32 c.loop-next.stored)) (leaves_in c.in_ok-next.next (pending_of 32 c.put_leaf.new.stored)) all c.loop-next.changes c.next.new.self c.in-Some.change c.in-Some.ensures.steps (c.in_ok-next.ensures.leaves before.0) before.1,
          ),
      base_then c.args.stored.now c.loop-next.stored c.put_leaf.new.stored c.loop-next.invariant.2 c.in_ok-next.ensures.base,
    )
