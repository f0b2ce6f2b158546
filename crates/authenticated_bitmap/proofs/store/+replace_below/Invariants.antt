use Rattle.authenticated_bitmap.proofs.store.+replace_below.Given as goal

abbrev pub decreases-replace_below : goal.decreases-replace_below
decreases-replace_below g l = l.level
