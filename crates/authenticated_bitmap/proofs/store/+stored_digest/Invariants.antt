use Rattle.authenticated_bitmap.proofs.store.+stored_digest.Given as goal

abbrev pub decreases-stored_digest : goal.decreases-stored_digest
decreases-stored_digest g l = l.level
