use Rattle.std.proofs.Common.{◌≡◌, ℕ, ◌+◌, ◌<◌, ◌≤◌, length, get_or}
use Rattle.historical_bitmap.proofs.bitmap.historical.word.put_bytes.Given as goal

abbrev pub invariant-loop-j : goal.invariant-loop-j
invariant-loop-j g l = record {
  size : length l.chunk ≡ g.row.N;
  done : (k : ℕ) → k < l.j → get_or l.chunk (l.at + k) 0 ≡ get_or l.bytes k 0;
  before : (k : ℕ) → k < l.at → get_or l.chunk k 0 ≡ get_or l.initial.chunk k 0;
  after : (k : ℕ) → l.at + l.j ≤ k → get_or l.chunk k 0 ≡ get_or l.initial.chunk k 0;
}
