use Rattle.std.proofs.Common.{◌≡◌, ◌+◌, length}
use Rattle.bench.proofs.edits.push_each.Given as goal

abbrev pub invariant-loop-position : goal.invariant-loop-position
invariant-loop-position g l = length l.map ≡ length l.initial.map + l.position
