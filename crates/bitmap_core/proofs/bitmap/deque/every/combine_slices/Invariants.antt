use Rattle.std.proofs.Common.{◌≡◌, ℕ, ◌*◌, ◌<◌, ◌≤◌, length, get_or, []}
use Rattle.bitmap_bytes.specs.Chunk.{chunk_bit}
use Rattle.bitmap_core.proofs.bitmap.deque.every.combine_slices.Given as goal

abbrev pub invariant-loop-i : goal.invariant-loop-i
invariant-loop-i g l = record {
  count : length l.chunks ≡ length l.initial.chunks;
  done : (k : ℕ) → k < 16 * l.i → (t : ℕ) → chunk_bit g.row.N (get_or l.chunks k []) t ≡ g.B.Bitwise.gives (chunk_bit g.row.N (get_or l.initial.chunks k []) t) (chunk_bit g.row.N (get_or l.others k []) t);
  rest : (k : ℕ) → 16 * l.i ≤ k → get_or l.chunks k [] ≡ get_or l.initial.chunks k [];
}
