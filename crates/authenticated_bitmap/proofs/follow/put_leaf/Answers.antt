use Rattle.std.proofs.Common.{ap, arith, set, sym, ◌∙◌, ◌++◌, ◌∷◌, []}
use Rattle.std.proofs.lemmas.Nat.{ones_le_self}
use Rattle.historical_bitmap.specs.View.{pending_of}
use Rattle.authenticated_bitmap.specs.LeafDigests.{leaves_in}
use Rattle.authenticated_bitmap.proofs.StoredLeaves.{count_leaves, leaf_appended, leaf_past, leaf_replaced, leaf_within}
use Rattle.authenticated_bitmap.proofs.follow.put_leaf.Goals as goal

pub returns-then-chunk-count-clause-tree : goal.returns-then-chunk-count-clause-tree
returns-then-chunk-count-clause-tree g c tree =
    let edit = c.in_ok-replace_leaf_in_batch.ensures in
    (leaf_replaced (g.D.Digest.digest_of c.args.hash.now) c.args.count (pending_of 32 c.args.stored.now) (pending_of 32 c.replace_leaf_in_batch.new.stored) tree edit.pruned c.args.chunk c.leaf_digest-digest.result edit.count edit.value).tree

pub returns-then-chunk-count-clause-leaves : goal.returns-then-chunk-count-clause-leaves
returns-then-chunk-count-clause-leaves g c tree =
    let H = g.D.Digest.digest_of c.args.hash.now in
    let old = pending_of 32 c.args.stored.now in
    let leaves = leaves_in c.args.count old in
    let edit = c.in_ok-replace_leaf_in_batch.ensures in
    (leaf_replaced H c.args.count old (pending_of 32 c.replace_leaf_in_batch.new.stored) tree edit.pruned c.args.chunk c.leaf_digest-digest.result edit.count edit.value).are
    ∙ ap (λ x. set leaves c.args.chunk x) c.leaf_digest-digest.ensures.value
    ∙ sym (leaf_within H leaves c.args.chunk c.args.bytes.now (omega (arith, c.if-chunk-count.true, count_leaves c.args.count old)))

pub overflow_add-result : goal.overflow_add-result
overflow_add-result g c = omega (arith, c.len.ensures.bound, c.requires.len, ones_le_self c.args.count)

pub returns-clause-tree : goal.returns-clause-tree
returns-clause-tree g c tree =
    let edit = c.in_ok-append_leaf_in_batch.ensures in
    (leaf_appended (g.D.Digest.digest_of c.args.hash.now) c.args.count (pending_of 32 c.args.stored.now) (pending_of 32 c.append_leaf_in_batch.new.stored) tree edit.pruned c.leaf_digest-digest.result edit.count edit.value).tree

pub returns-clause-leaves : goal.returns-clause-leaves
returns-clause-leaves g c tree =
    let H = g.D.Digest.digest_of c.args.hash.now in
    let old = pending_of 32 c.args.stored.now in
    let leaves = leaves_in c.args.count old in
    let edit = c.in_ok-append_leaf_in_batch.ensures in
    (leaf_appended H c.args.count old (pending_of 32 c.append_leaf_in_batch.new.stored) tree edit.pruned c.leaf_digest-digest.result edit.count edit.value).are
    ∙ ap (λ x. leaves ++ x ∷ []) c.leaf_digest-digest.ensures.value
    ∙ sym (leaf_past H leaves c.args.chunk c.args.bytes.now (omega (arith, c.if-chunk-count.false, count_leaves c.args.count old)))
