use Rattle.authenticated_bitmap.proofs.store.+push_stored_siblings.Given as goal

abbrev pub decreases-push_stored_siblings : goal.decreases-push_stored_siblings
decreases-push_stored_siblings g l = l.level
