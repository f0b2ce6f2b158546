use Rattle.std.proofs.Common.{◌≤◌, ◌^◌, ◌++◌, length, ap, arith, ◌∙◌}
use Rattle.std.proofs.lemmas.List.{take_all}
use Rattle.authenticated_bitmap.specs.Stored.{leaves_under, nodes}
use Rattle.authenticated_bitmap.specs.Range.{siblings_below}
use Rattle.authenticated_bitmap.proofs.StoredChunks.{count_has}
use Rattle.authenticated_bitmap.proofs.Complete.{below_power}
use Rattle.authenticated_bitmap.proofs.Ranges.{siblings_same}
use Rattle.authenticated_bitmap.proofs.store.prove_range_from_bitmap.Goals as goal

pub push_stored_range-requires-clause-count : goal.push_stored_range-requires-clause-count
push_stored_range-requires-clause-count g c = ap length c.new-nodes.ensures ∙ count_has (g.B.Readable.meaning c.args.stored.now) (nodes c.args.n) c.requires.count

pub returns : goal.returns
returns g c digests l s =
    let H = g.D.Digest.digest_of c.args.hash.now in
    let fits : length digests ≤ 2 ^ 61 = omega (arith, l, c.requires.few) in
    c.in_ok-push_stored_range.ensures digests l (c.new-nodes.ensures ∙ s)
    ∙ ap (λ xs. xs ++ siblings_below H 61 c.args.first c.args.count (leaves_under 61 0 digests)) c.new-siblings.ensures.items
    ∙ ap (siblings_below H 61 c.args.first c.args.count) (take_all (2 ^ 61) digests fits)
    ∙ siblings_same H 61 (length digests) c.args.first c.args.count digests fits (below_power (length digests))
