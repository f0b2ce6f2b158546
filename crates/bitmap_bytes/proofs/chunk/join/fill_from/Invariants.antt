use Rattle.std.proofs.Common.{◌≡◌, ℕ, ◌+◌, ◌-◌, ◌*◌, ◌<◌, ◌≤◌, ◌++◌, length, get_or, eqb}
use Rattle.std.specs.Int.{bit_at}
use Rattle.bitmap_bytes.specs.Chunk.{bytes_bit}
use Rattle.bitmap_bytes.proofs.chunk.join.fill_from.Given as goal

abbrev pub invariant-loop-j : goal.invariant-loop-j
invariant-loop-j g l = record {
  size : length l.chunk ≡ g.row.N;
  kept : (k : ℕ) → k < l.from → get_or l.chunk k 0 ≡ get_or l.initial.chunk k 0;
  done : (k t : ℕ) → l.from ≤ k → k < l.j → t < 8
      → eqb (bit_at (get_or l.chunk k 0) t) 1 ≡ bytes_bit (l.front ++ l.back) (l.bit + (8 * (k - l.from) + t));
}
