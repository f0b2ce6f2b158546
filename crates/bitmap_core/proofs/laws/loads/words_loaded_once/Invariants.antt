use Rattle.std.proofs.Common.{◌≡◌, length}
use Rattle.bitmap_core.proofs.laws.loads.words_loaded_once.Given as goal

abbrev pub invariant-loop : goal.invariant-loop
invariant-loop g l = l.positions.words ≡ l.initial.positions.words

abbrev pub decreases-loop : goal.decreases-loop
decreases-loop g l = length l.positions.left
