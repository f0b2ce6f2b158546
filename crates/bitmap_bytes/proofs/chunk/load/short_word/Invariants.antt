use Rattle.std.proofs.Common.{◌≡◌, ℕ, ◌<◌, ◌≤◌, get_or, length}
use Rattle.bitmap_bytes.proofs.chunk.load.short_word.Given as goal

abbrev pub invariant-loop-i : goal.invariant-loop-i
invariant-loop-i l =
    ((k : ℕ) → k < l.i → get_or l.word k 0 ≡ get_or l.bytes k 0) × ((k : ℕ) → l.i ≤ k → get_or l.word k 0 ≡ 0) × (length l.word ≡ 8)
