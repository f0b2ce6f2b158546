use Rattle.std.proofs.Common.{◌≡◌, ◌∙◌, Some, sym, ap, arith}
use Rattle.std.specs.Cmp.Lexicographic.{bytes_decides}
use Rattle.authenticated_bitmap.specs.Tree.{leaf_hash, root_from_path}
use Rattle.authenticated_bitmap.proofs.Sound.{binds_leaf}
use Rattle.authenticated_bitmap.proofs.tree.verify.Goals as goal

pub returns-in-Some-clause-binds : goal.returns-in-Some-clause-binds
returns-in-Some-clause-binds g c agrees =
    let H = g.D.Digest.digest_of c.args.hash.now in
    let same : c.in-Some.digest ≡ c.args.tree.now = (bytes_decides c.in-Some.digest c.args.tree.now).0 (sym c.eq.ensures ∙ agrees) in
    let leads : root_from_path H c.args.i c.args.n (leaf_hash H c.args.leaf.now) c.args.path.now ≡ Some c.args.tree.now =
    ap (λ d. root_from_path H c.args.i c.args.n d c.args.path.now) (sym c.leaf_digest.ensures.value) ∙ sym c.in-Some.ensures.value ∙ ap Some same in
    binds_leaf H (g.met.D.Digest.is_hash c.args.hash.now) c.args.tree.now c.args.n c.args.i c.args.leaf.now c.args.path.now (omega (arith, c.if-i-n.false)) c.leaf_digest.ensures.bytes c.in-Some.ensures.bytes leads
