use Rattle.std.proofs.Common.{◌≡◌, ◌∷◌, length, drop, arith, ◌∙◌}
use Rattle.std.proofs.lemmas.Grind.{common_steps}
use Rattle.authenticated_bitmap.proofs.Halves.{code_hash_none, code_hash_leaf, code_hash_low, code_hash_split}
use Rattle.authenticated_bitmap.proofs.tree.+subtree_digest.Goals as goal

pub returns-in-None : goal.returns-in-None
returns-in-None g t c =
    let H = g.D.Digest.digest_of c.args.hash.now in
    let none : length c.args.digests.now ≡ 0 = grind (arith, common_steps, c.first.ensures.value) in
    c.digest_of_nothing.ensures ∙ code_hash_none H c.args.height c.args.digests.now c.if-height-eq0.true none

pub returns-in-Some : goal.returns-in-Some
returns-in-Some g t c =
    let H = g.D.Digest.digest_of c.args.hash.now in
    let first : c.args.digests.now ≡ c.in-Some.digest.now ∷ drop 1 c.args.digests.now = grind (arith, common_steps, c.in-Some.ensures.value) in
    code_hash_leaf H c.args.height c.in-Some.digest.now c.args.digests.now c.if-height-eq0.true first

pub returns-then-digests-half : goal.returns-then-digests-half
returns-then-digests-half g t c =
    let H = g.D.Digest.digest_of c.args.hash.now in
    c.subtree_digest.ensures ∙ code_hash_low H c.args.height c.half_of-half.result c.half_of-half.ensures (omega arith) c.args.digests.now c.if-digests-half.true

pub returns : goal.returns
returns g t c =
    let H = g.D.Digest.digest_of c.args.hash.now in
    let s = code_hash_split H c.args.height c.half_of-half.result c.half_of-half.ensures (omega arith) c.args.digests.now c.if-digests-half.false in
    cc (c.node_digest.ensures.value, c.subtree_digest-left.ensures, c.subtree_digest-right.ensures, s)
