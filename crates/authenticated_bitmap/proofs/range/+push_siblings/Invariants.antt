use Rattle.authenticated_bitmap.proofs.range.+push_siblings.Given as goal

abbrev pub decreases-push_siblings : goal.decreases-push_siblings
decreases-push_siblings g l = l.height
