use Rattle.std.proofs.Common.{◌≡◌, ◌≤◌}
use Rattle.bitmap_core.specs.PrunedBits.{bit_len, pruned_bits}
use Rattle.bench.proofs.pruned.set_each.Given as goal

abbrev pub invariant-loop-position : goal.invariant-loop-position
invariant-loop-position g l = record {
  first : pruned_bits g.row.N l.log ≤ l.position;
  end : bit_len g.row.N l.log ≡ l.position-end;
}
