use Rattle.std.proofs.Common.{◌≡◌, ◌+◌}
use Rattle.bitmap_core.specs.PrunedBits.{bit_len}
use Rattle.bench.proofs.pruned.push_each.Given as goal

abbrev pub invariant-loop-position : goal.invariant-loop-position
invariant-loop-position g l = bit_len g.row.N l.log ≡ bit_len g.row.N l.initial.log + l.position
