use Rattle.std.proofs.Common.{◌≡◌, ◌≤◌, ◌^◌, ◌-◌, ◌++◌, length, reverse, ap, arith, ◌∙◌}
use Rattle.std.proofs.lemmas.List.{take_all}
use Rattle.authenticated_bitmap.specs.Stored.{leaves_under, nodes}
use Rattle.authenticated_bitmap.specs.Tree.{siblings}
use Rattle.authenticated_bitmap.proofs.StoredChunks.{count_has}
use Rattle.authenticated_bitmap.proofs.Complete.{below_power}
use Rattle.authenticated_bitmap.proofs.Heights.{siblings_same}
use Rattle.authenticated_bitmap.proofs.store.prove_from_bitmap.Goals as goal

pub push_stored_siblings-requires-clause-count : goal.push_stored_siblings-requires-clause-count
push_stored_siblings-requires-clause-count g c = ap length c.new-nodes.ensures ∙ count_has (g.B.Readable.meaning c.args.stored.now) (nodes c.args.n) c.requires.count

pub returns : goal.returns
returns g c digests l s =
    let H = g.D.Digest.digest_of c.args.hash.now in
    let fits : length digests ≤ 2 ^ 61 = omega (arith, l, c.requires.few) in
    c.in_ok-push_stored_siblings.ensures digests l (c.new-nodes.ensures ∙ s)
    ∙ ap (λ xs. xs ++ reverse (siblings H 61 (c.args.i - 0) (leaves_under 61 0 digests))) c.new-path.ensures.items
    ∙ ap (λ xs. reverse (siblings H 61 (c.args.i - 0) xs)) (take_all (2 ^ 61) digests fits)
    ∙ (let z : c.args.i - 0 ≡ c.args.i = omega arith in ap (λ i. reverse (siblings H 61 i digests)) z)
    ∙ ap reverse (siblings_same H 61 (length digests) c.args.i digests fits (below_power (length digests)))
