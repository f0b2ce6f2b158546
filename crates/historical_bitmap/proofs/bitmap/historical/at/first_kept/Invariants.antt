use Rattle.std.proofs.Common.{drop}
use Rattle.historical_bitmap.proofs.History.InPlace.{LooksOn}
use Rattle.historical_bitmap.proofs.bitmap.historical.at.first_kept.Given as goal

abbrev pub invariant-loop-position : goal.invariant-loop-position
invariant-loop-position g l = LooksOn (drop l.first l.commits) (drop l.position l.commits) l.chunk
