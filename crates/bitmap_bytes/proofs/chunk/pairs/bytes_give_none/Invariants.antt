use Rattle.std.proofs.Common.{◌≡◌, ℕ, ◌<◌, false, eqb, get_or}
use Rattle.std.specs.Int.{bit_at}
use Rattle.bitmap_bytes.proofs.chunk.pairs.bytes_give_none.Given as goal

abbrev pub invariant-loop-i : goal.invariant-loop-i
invariant-loop-i g l = (k : ℕ) → k < l.i → (t : ℕ) → g.B.Bitwise.gives (eqb (bit_at (get_or l.a k 0) t) 1) (eqb (bit_at (get_or l.b k 0) t) 1) ≡ false
