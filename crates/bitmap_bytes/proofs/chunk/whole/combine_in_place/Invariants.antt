use Rattle.std.proofs.Common.{◌≡◌, ℕ, ◌<◌, ◌≤◌, length, get_or, eqb}
use Rattle.std.specs.Int.{bit_at}
use Rattle.bitmap_bytes.proofs.chunk.whole.combine_in_place.Given as goal

abbrev pub invariant-loop-j : goal.invariant-loop-j
invariant-loop-j g l = record {
  size : length l.chunk ≡ g.row.N;
  done : (k : ℕ) → k < l.j → (t : ℕ) → eqb (bit_at (get_or l.chunk k 0) t) 1 ≡ g.B.Bitwise.gives (eqb (bit_at (get_or l.initial.chunk k 0) t) 1) (eqb (bit_at (get_or l.other k 0) t) 1);
  rest : (k : ℕ) → l.j ≤ k → get_or l.chunk k 0 ≡ get_or l.initial.chunk k 0;
}
