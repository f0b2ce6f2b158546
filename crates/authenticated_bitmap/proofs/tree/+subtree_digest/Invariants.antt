use Rattle.authenticated_bitmap.proofs.tree.+subtree_digest.Given as goal

abbrev pub decreases-subtree_digest : goal.decreases-subtree_digest
decreases-subtree_digest g l = l.height
