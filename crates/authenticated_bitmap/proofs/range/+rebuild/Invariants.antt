use Rattle.authenticated_bitmap.proofs.range.+rebuild.Given as goal

abbrev pub decreases-rebuild : goal.decreases-rebuild
decreases-rebuild g l = l.height
