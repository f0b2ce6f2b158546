use Rattle.authenticated_bitmap.proofs.store.+push_completed.Given as goal

abbrev pub decreases-push_completed : goal.decreases-push_completed
decreases-push_completed g l = l.index
