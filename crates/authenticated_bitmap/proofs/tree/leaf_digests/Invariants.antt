use Rattle.std.proofs.Common.{◌≡◌, take}
use Rattle.authenticated_bitmap.specs.Tree.{leaf_hashes}
use Rattle.authenticated_bitmap.proofs.tree.leaf_digests.Given as goal

abbrev pub invariant-loop-leaf : goal.invariant-loop-leaf
invariant-loop-leaf g l = l.digests.items ≡ leaf_hashes (g.D.Digest.digest_of l.hash) (take l.leaf-index l.leaves)
