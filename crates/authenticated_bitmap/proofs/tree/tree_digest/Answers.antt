use Rattle.std.proofs.Common.{arith, ◌∙◌}
use Rattle.authenticated_bitmap.proofs.Heights.{tree_at}
use Rattle.authenticated_bitmap.proofs.tree.tree_digest.Goals as goal

pub returns : goal.returns
returns g c = c.subtree_digest.ensures ∙ tree_at (g.D.Digest.digest_of c.args.hash.now) 64 c.args.digests.now (omega arith)
