use Rattle.authenticated_bitmap.proofs.tree.+climb.Given as goal

abbrev pub decreases-climb : goal.decreases-climb
decreases-climb g l = l.height
