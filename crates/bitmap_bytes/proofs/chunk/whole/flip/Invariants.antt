use Rattle.std.proofs.Common.{◌≡◌, ℕ, ◌-◌, ◌<◌, ◌≤◌, length, get_or}
use Rattle.bitmap_bytes.proofs.chunk.whole.flip.Given as goal

abbrev pub invariant-loop-byte : goal.invariant-loop-byte
invariant-loop-byte g l = record {
  size : length l.chunk ≡ g.row.N;
  done : (k : ℕ) → k < l.byte-index → get_or l.chunk k 0 ≡ 255 - get_or l.initial.chunk k 0;
  rest : (k : ℕ) → l.byte-index ≤ k → get_or l.chunk k 0 ≡ get_or l.initial.chunk k 0;
}
