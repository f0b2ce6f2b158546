use Rattle.std.proofs.Common.{◌≡◌, ◌≢◌, length, ◌∙◌, arith}
use Rattle.std.proofs.lemmas.Grind.{common_steps}
use Rattle.authenticated_bitmap.specs.Tree.{leaf_hashes}
use Rattle.authenticated_bitmap.proofs.RangeCode.{items_are_bytes, are_digests, code_tree_missing, code_tree_whole, code_tree_left}
use Rattle.authenticated_bitmap.proofs.range.recompute_range.Goals as goal

pub returns-in_err-tree-clause-value : goal.returns-in_err-tree-clause-value
returns-in_err-tree-clause-value g c =
    let H = g.D.Digest.digest_of c.args.hash.now in
    c.from_residual.ensures ∙ code_tree_missing H c.args.n c.args.first (leaf_hashes H c.args.chunks.now) c.args.siblings.now (omega arith) c.in_err-tree.ensures

pub returns-in_err-tree-clause-bytes : goal.returns-in_err-tree-clause-bytes
returns-in_err-tree-clause-bytes g c = items_are_bytes c.args.chunks.now c.as_flattened.result.now c.as_flattened.ensures.value c.byte_count-chunks.ensures.bytes

pub returns-in_err-tree-clause-digests : goal.returns-in_err-tree-clause-digests
returns-in_err-tree-clause-digests g c =
    are_digests c.args.siblings.now (items_are_bytes c.args.siblings.now c.as_flattened-2.result.now c.as_flattened-2.ensures.value c.byte_count-siblings.ensures.bytes) c.told-siblings

pub returns-then-is_empty-clause-value : goal.returns-then-is_empty-clause-value
returns-then-is_empty-clause-value g c =
    let H = g.D.Digest.digest_of c.args.hash.now in
    let none : length c.in_ok-tree.rest.now ≡ 0 = grind (arith, common_steps) in
    code_tree_whole H c.args.n c.args.first (leaf_hashes H c.args.chunks.now) c.args.siblings.now (omega arith) c.in_ok-tree.tree c.in_ok-tree.rest.now c.in_ok-tree.ensures none

pub returns-then-is_empty-clause-bytes : goal.returns-then-is_empty-clause-bytes
returns-then-is_empty-clause-bytes g c = items_are_bytes c.args.chunks.now c.as_flattened.result.now c.as_flattened.ensures.value c.byte_count-chunks.ensures.bytes

pub returns-then-is_empty-clause-digests : goal.returns-then-is_empty-clause-digests
returns-then-is_empty-clause-digests g c =
    are_digests c.args.siblings.now (items_are_bytes c.args.siblings.now c.as_flattened-2.result.now c.as_flattened-2.ensures.value c.byte_count-siblings.ensures.bytes) c.told-siblings

pub returns-else-is_empty-clause-value : goal.returns-else-is_empty-clause-value
returns-else-is_empty-clause-value g c =
    let H = g.D.Digest.digest_of c.args.hash.now in
    let some : length c.in_ok-tree.rest.now ≢ 0 = grind (arith, common_steps) in
    code_tree_left H c.args.n c.args.first (leaf_hashes H c.args.chunks.now) c.args.siblings.now (omega arith) c.in_ok-tree.tree c.in_ok-tree.rest.now c.in_ok-tree.ensures some

pub returns-else-is_empty-clause-bytes : goal.returns-else-is_empty-clause-bytes
returns-else-is_empty-clause-bytes g c = items_are_bytes c.args.chunks.now c.as_flattened.result.now c.as_flattened.ensures.value c.byte_count-chunks.ensures.bytes

pub returns-else-is_empty-clause-digests : goal.returns-else-is_empty-clause-digests
returns-else-is_empty-clause-digests g c =
    are_digests c.args.siblings.now (items_are_bytes c.args.siblings.now c.as_flattened-2.result.now c.as_flattened-2.ensures.value c.byte_count-siblings.ensures.bytes) c.told-siblings
