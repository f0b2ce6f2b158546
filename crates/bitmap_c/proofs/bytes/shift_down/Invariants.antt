use Rattle.std.proofs.Common.{◌≡◌, ℕ, ◌+◌, ◌-◌, ◌*◌, ◌<◌, ◌≤◌, ◌++◌, [], ◌∷◌, length, get_or}
use Rattle.bitmap_bytes.specs.Chunk.{bytes_bit}
use Rattle.bitmap_c.proofs.bytes.shift_down.Given as goal

abbrev pub invariant-loop-at : goal.invariant-loop-at
invariant-loop-at l = record {
  within : l.at ≤ length l.initial.bytes;
  size : length l.bytes ≡ length l.initial.bytes;
  done : (i : ℕ) → i < 8 * l.at → bytes_bit l.bytes i ≡ bytes_bit (l.initial.bytes ++ l.next ∷ []) (l.skip + i);
  rest : (k : ℕ) → l.at ≤ k → get_or l.bytes k 0 ≡ get_or l.initial.bytes k 0;
}

abbrev pub decreases-loop-at : goal.decreases-loop-at
decreases-loop-at l = length l.initial.bytes - l.at
