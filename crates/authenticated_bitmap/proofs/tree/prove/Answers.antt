use Rattle.std.proofs.Common.{◌≡◌, length, reverse, arith, ap, ◌∙◌, ◌++◌}
use Rattle.authenticated_bitmap.specs.Tree.{siblings}
use Rattle.authenticated_bitmap.proofs.Complete.{below_power}
use Rattle.authenticated_bitmap.proofs.Heights.{siblings_same}
use Rattle.authenticated_bitmap.proofs.tree.prove.Goals as goal

pub returns : goal.returns
returns g c =
    let H = g.D.Digest.digest_of c.args.hash.now in
    let s : siblings H 64 c.args.i c.args.digests.now ≡ siblings H (length c.args.digests.now) c.args.i c.args.digests.now = siblings_same H 64 (length c.args.digests.now) c.args.i c.args.digests.now (omega arith) (below_power (length c.args.digests.now)) in
    c.in_ok-push_siblings.ensures ∙ ap (λ xs. xs ++ reverse (siblings H 64 c.args.i c.args.digests.now)) c.new-path.ensures.items ∙ ap reverse s
