use Rattle.std.proofs.Common.{◌≡◌, ℕ, ◌*◌, ◌/◌, ◌<◌, ◌≤◌, length}
use Rattle.bitmap_bytes.specs.Bits.{chunks_bit}
use Rattle.bitmap_core.proofs.bitmap.deque.every.fill.Given as goal

abbrev pub invariant-loop-chunk : goal.invariant-loop-chunk
invariant-loop-chunk g l = record {
  count : length l.chunk-items ≡ length l.fn.chunks.items;
  done : (k : ℕ) → k / (8 * g.row.N) < l.chunk-index → chunks_bit g.row.N l.chunk-items k ≡ l.fn.value;
  rest : (k : ℕ) → l.chunk-index ≤ k / (8 * g.row.N) → chunks_bit g.row.N l.chunk-items k ≡ chunks_bit g.row.N l.fn.chunks.items k;
}
