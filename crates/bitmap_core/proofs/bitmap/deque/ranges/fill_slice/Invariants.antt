use Rattle.std.proofs.Common.{◌≡◌, ℕ, ◌<◌, ◌≤◌, length, get_or, []}
use Rattle.bitmap_bytes.specs.Chunk.{chunk_bit}
use Rattle.bitmap_core.proofs.bitmap.deque.ranges.fill_slice.Given as goal

abbrev pub invariant-loop-i : goal.invariant-loop-i
invariant-loop-i g l = record {
  count : length l.chunks ≡ length l.initial.chunks;
  inside : (k : ℕ) → l.from ≤ k → k < l.i → (t : ℕ) → chunk_bit g.row.N (get_or l.chunks k []) t ≡ l.value;
  below : (k : ℕ) → k < l.from → get_or l.chunks k [] ≡ get_or l.initial.chunks k [];
  rest : (k : ℕ) → l.i ≤ k → get_or l.chunks k [] ≡ get_or l.initial.chunks k [];
}
