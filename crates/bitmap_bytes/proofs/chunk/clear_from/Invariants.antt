use Rattle.std.proofs.Common.{◌≡◌, ℕ, ◌-◌, ◌%◌, ◌^◌, ◌<◌, length, get_or, bit_and}
use Rattle.bitmap_bytes.proofs.chunk.clear_from.Given as goal

abbrev pub invariant-loop-j : goal.invariant-loop-j
invariant-loop-j g l = record {
  size : length l.chunk ≡ g.row.N;
  done : (k : ℕ) → l.byte < k → k < l.j → get_or l.chunk k 0 ≡ 0;
  here : get_or l.chunk l.byte 0 ≡ bit_and (get_or l.fn.chunk l.byte 0) (2 ^ (l.fn.from % 8) - 1);
  kept : (k : ℕ) → k < l.byte → get_or l.chunk k 0 ≡ get_or l.fn.chunk k 0;
}
