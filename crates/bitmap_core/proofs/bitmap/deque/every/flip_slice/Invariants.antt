use Rattle.std.proofs.Common.{◌≡◌, ℕ, ◌*◌, ◌<◌, ◌≤◌, length, get_or, not, []}
use Rattle.bitmap_bytes.specs.Chunk.{chunk_bit}
use Rattle.bitmap_core.proofs.bitmap.deque.every.flip_slice.Given as goal

abbrev pub invariant-loop-i : goal.invariant-loop-i
invariant-loop-i g l = record {
  count : length l.chunks ≡ length l.initial.chunks;
  done : (k : ℕ) → k < 16 * l.i → (t : ℕ) → chunk_bit g.row.N (get_or l.chunks k []) t ≡ not (chunk_bit g.row.N (get_or l.initial.chunks k []) t);
  rest : (k : ℕ) → 16 * l.i ≤ k → get_or l.chunks k [] ≡ get_or l.initial.chunks k [];
}
