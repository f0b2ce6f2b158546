use Rattle.std.proofs.Common.{◌≡◌, length}
use Rattle.bench.proofs.edits.set_each.Given as goal

abbrev pub invariant-loop-position : goal.invariant-loop-position
invariant-loop-position g l = length l.map ≡ l.position-end
