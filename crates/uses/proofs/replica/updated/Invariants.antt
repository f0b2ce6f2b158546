use Rattle.std.proofs.Common.{◌≡◌, ◌*◌, ◌/◌, ◌≤◌, ◌-◌}
use Rattle.historical_bitmap.specs.Record.{bit_or_else}
use Rattle.uses.proofs.Replicas.{bits_up_to}
use Rattle.uses.proofs.replica.updated.Given as goal

abbrev pub invariant-loop-position : goal.invariant-loop-position
invariant-loop-position g l = record {
  pruned : l.made.pruned ≡ l.pruned_chunks;
  from : 64 * l.pruned_chunks ≤ l.position;
  within : l.position - 64 * l.pruned_chunks ≤ l.len - 64 * l.pruned_chunks;
  bits : l.made.bits ≡ bits_up_to (λ k. bit_or_else 8 (g.C.Chunks.of l.chunks (k / 64)) l.older k) (64 * l.pruned_chunks) l.position;
}
