use Rattle.std.proofs.Common.{◌≤◌, ◌^◌, ◌++◌, [], length, set, refl, sym, arith, ◌∙◌}
use Rattle.std.proofs.lemmas.List.{append-nil, length-set}
use Rattle.authenticated_bitmap.specs.Stored.{nodes, stored, stored_below}
use Rattle.authenticated_bitmap.specs.StoredBitmap.{digests_in}
use Rattle.authenticated_bitmap.proofs.BatchDigests.{count_in, few_leaves, has_whole, len_of_whole, same_base}
use Rattle.authenticated_bitmap.proofs.Complete.{below_power}
use Rattle.authenticated_bitmap.proofs.Nodes.{stored_at_height}
use Rattle.authenticated_bitmap.proofs.Replaced.{on_ok_equal}
use Rattle.authenticated_bitmap.proofs.node_edits.replace_leaf_in_batch.Goals as goal

pub replace_below-requires-clause-ready : goal.replace_below-requires-clause-ready
replace_below-requires-clause-ready g c = has_whole c.args.stored.now (nodes c.args.n) c.requires.pruned c.requires.count

pub replace_below-requires-clause-within : goal.replace_below-requires-clause-within
replace_below-requires-clause-within g c = omega (arith, count_in c.args.stored.now (nodes c.args.n) c.requires.count)

pub returns-clause-value : goal.returns-clause-value
returns-clause-value g c digests l s =
    let H = g.D.Digest.digest_of c.args.hash.now in
    let new = set digests c.args.i c.args.digest.now in
    let few = few_leaves c.args.n (omega (arith, c.len.ensures.bound, c.requires.count)) in
    let fits : length digests ≤ 2 ^ 61 = omega (arith, l, few) in
    let new_fits : length new ≤ 2 ^ 61 = omega (arith, fits, length-set digests c.args.i c.args.digest.now) in
    on_ok_equal c.replace_below.result (digests_in c.replace_below.new.stored) ([] ++ stored_below H 61 new ++ []) (stored H new)
    (c.replace_below.ensures.value [] digests [] refl l
    (s ∙ stored_at_height H (length digests) 61 digests (below_power (length digests)) fits ∙ sym (append-nil (stored_below H 61 digests))))
    (append-nil (stored_below H 61 new) ∙ stored_at_height H 61 (length new) new new_fits (below_power (length new)))

pub returns-clause-count : goal.returns-clause-count
returns-clause-count g c =
    len_of_whole c.replace_below.new.stored (nodes c.args.n) c.replace_below.ensures.ready (c.replace_below.ensures.size ∙ count_in c.args.stored.now (nodes c.args.n) c.requires.count)

pub returns-clause-base : goal.returns-clause-base
returns-clause-base g c = c.replace_below.ensures.rest c.args.stored.now (same_base c.args.stored.now)
