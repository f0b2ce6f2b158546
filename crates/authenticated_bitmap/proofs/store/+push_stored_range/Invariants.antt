use Rattle.authenticated_bitmap.proofs.store.+push_stored_range.Given as goal

abbrev pub decreases-push_stored_range : goal.decreases-push_stored_range
decreases-push_stored_range g l = l.level
