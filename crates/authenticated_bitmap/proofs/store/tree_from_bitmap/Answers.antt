use Rattle.std.proofs.Common.{◌≡◌, ◌≤◌, ◌^◌, [], length, sym, ap, arith, ◌∙◌}
use Rattle.std.proofs.lemmas.List.{nil_from_length, take_all}
use Rattle.authenticated_bitmap.specs.Tree.{subtree_hash, tree_hash}
use Rattle.authenticated_bitmap.specs.Stored.{nodes}
use Rattle.authenticated_bitmap.proofs.StoredChunks.{count_has}
use Rattle.authenticated_bitmap.proofs.Heights.{tree_none, tree_at}
use Rattle.authenticated_bitmap.proofs.store.tree_from_bitmap.Goals as goal

pub returns-then-n-eq0 : goal.returns-then-n-eq0
returns-then-n-eq0 g c digests l s =
    let H = g.D.Digest.digest_of c.args.hash.now in
    let none : digests ≡ [] = nil_from_length digests (omega (arith, l, c.if-n-eq0.true)) in
    c.digest_of_nothing.ensures ∙ sym (ap (tree_hash H) none ∙ tree_none H)

pub stored_digest-requires-clause-count : goal.stored_digest-requires-clause-count
stored_digest-requires-clause-count g c = ap length c.new.ensures ∙ count_has (g.B.Readable.meaning c.args.stored.now) (nodes c.args.n) c.requires.count

pub returns : goal.returns
returns g c digests l s =
    let H = g.D.Digest.digest_of c.args.hash.now in
    let fits : length digests ≤ 2 ^ 61 = omega (arith, l, c.requires.few) in
    c.stored_digest.ensures digests l (c.new.ensures ∙ s) ∙ ap (subtree_hash H 61) (take_all (2 ^ 61) digests fits) ∙ tree_at H 61 digests fits
