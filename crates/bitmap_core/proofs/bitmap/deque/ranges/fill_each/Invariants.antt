use Rattle.std.proofs.Common.{◌≡◌, ℕ, ◌*◌, ◌/◌, ◌<◌, ◌≤◌, length}
use Rattle.bitmap_bytes.specs.Bits.{chunks_bit}
use Rattle.bitmap_core.proofs.bitmap.deque.ranges.fill_each.Given as goal

abbrev pub invariant-loop-i : goal.invariant-loop-i
invariant-loop-i g l = record {
  count : length l.chunks.items ≡ length l.fn.chunks.items;
  inside : (k : ℕ) → l.fn.from ≤ k / (8 * g.row.N) → k / (8 * g.row.N) < l.i → chunks_bit g.row.N l.chunks.items k ≡ l.fn.value;
  below : (k : ℕ) → k / (8 * g.row.N) < l.fn.from → chunks_bit g.row.N l.chunks.items k ≡ chunks_bit g.row.N l.fn.chunks.items k;
  rest : (k : ℕ) → l.i ≤ k / (8 * g.row.N) → chunks_bit g.row.N l.chunks.items k ≡ chunks_bit g.row.N l.fn.chunks.items k;
}
