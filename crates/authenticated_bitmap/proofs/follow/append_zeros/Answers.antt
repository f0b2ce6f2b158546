use Rattle.std.proofs.Common.{arith, ◌∙◌}
use Rattle.historical_bitmap.specs.View.{pending_of}
use Rattle.authenticated_bitmap.specs.LeafDigests.{leaves_in, zero_leaf}
use Rattle.authenticated_bitmap.proofs.StoredLeaves.{base_then, leaf_appended, zeros_more}
use Rattle.authenticated_bitmap.proofs.follow.append_zeros.Goals as goal

pub shared_whole_as_slice-leaf_digest : goal.shared_whole_as_slice-leaf_digest
shared_whole_as_slice-leaf_digest g c = omega (arith, c.requires.width.fits)

pub loop-count-preserved : goal.loop-count-preserved
loop-count-preserved g c =
    let H = g.D.Digest.digest_of c.args.hash.now in
    let old = pending_of 32 c.loop-count.stored in
    let new = pending_of 32 c.append_leaf_in_batch.new.stored in
    let digest = c.leaf_digest-digest.result in
    let edit = c.in_ok-append_leaf_in_batch.ensures in (
      record { pruned = edit.pruned; len = edit.count },
      λ tree.
          let before = c.loop-count.invariant.1 tree in
          let made = leaf_appended H c.loop-count.count old new before.0 edit.pruned digest edit.count edit.value in (
            made.tree,
            made.are ∙ zeros_more (leaves_in c.loop-count.count old) (leaves_in c.args.from (pending_of 32 c.args.stored.now)) c.args.from c.loop-count.count digest (zero_leaf H g.row.N) c.loop-count.auto.count before.1 c.leaf_digest-digest.ensures.value,
          ),
      base_then c.args.stored.now c.loop-count.stored c.append_leaf_in_batch.new.stored c.loop-count.invariant.2 edit.base,
    )
