use Rattle.std.proofs.Common.{◌*◌, ◌≤◌, ap, arith, rules, ◌∙◌}
use Rattle.bitmap_core.specs.PrunedBits.{bit_len, pruned_bits, truncated}
use Rattle.historical_bitmap.specs.View.{pending_of}
use Rattle.authenticated_bitmap.proofs.BatchDigests.{cut_digests, cut_len, few_nodes}
use Rattle.authenticated_bitmap.proofs.node_edits.truncate_leaves_in_batch.Goals as goal

pub overflow_mul-node_count : goal.overflow_mul-node_count
overflow_mul-node_count c =
    omega (arith, few_nodes c.args.n c.args.kept c.if-kept-n.true, c.node_count.ensures, c.requires.count, c.len.ensures.bound)

pub truncate-requires : goal.truncate-requires
truncate-requires c =
    let from : pruned_bits 32 (pending_of 32 c.args.stored.now) ≤ 256 * c.node_count.result = omega (arith, c.requires.pruned) in
    let to : 256 * c.node_count.result ≤ bit_len 32 (pending_of 32 c.args.stored.now) =
    omega (arith, few_nodes c.args.n c.args.kept c.if-kept-n.true, c.node_count.ensures, c.requires.count) in
    search (rules, from, to)

pub returns-then-kept-n-clause-value : goal.returns-then-kept-n-clause-value
returns-then-kept-n-clause-value c H digests l is =
    cut_digests c.args.stored.now c.truncate.new.self c.args.n c.args.kept c.requires.pruned c.requires.count c.if-kept-n.true
    (c.truncate.ensures.pending ∙ ap (λ m. truncated 32 (pending_of 32 c.args.stored.now) (256 * m)) c.node_count.ensures) H digests is

pub returns-then-kept-n-clause-count : goal.returns-then-kept-n-clause-count
returns-then-kept-n-clause-count c =
    cut_len c.args.stored.now c.truncate.new.self c.args.n c.args.kept c.requires.pruned c.requires.count c.if-kept-n.true
    (c.truncate.ensures.pending ∙ ap (λ m. truncated 32 (pending_of 32 c.args.stored.now) (256 * m)) c.node_count.ensures)
