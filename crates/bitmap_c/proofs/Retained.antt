-- Positions of chunks that are not retained.
use Rattle.std.proofs.Common.{◌≡◌, ℕ, ◌*◌, ◌/◌, ◌<◌, ◌≤◌, refl, arith}
use mathlib.Core.Logic.{inl, inr}
use Rattle.std.specs.Prelude.{Some, None}
use Rattle.std.proofs.Math.Nat.{mul-div-le}
use Rattle.std.proofs.lemmas.Bool.{cases_lt, le-leb, lt-ltb}
use Rattle.std.proofs.lemmas.Nat.{le-div}
use Rattle.bitmap_core.specs.PrunedBits.{PrunedBits, bit_len, chunk}
use Rattle.historical_bitmap.specs.Changes.{retained_bytes}

-- if chunk i of a position below the length is not retained, the position is pruned
pub is_pruned : (n : ℕ) (b : PrunedBits) (p i : ℕ) → 0 < 8 * n → i ≡ p / (8 * n) → p < bit_len n b → retained_bytes n b i ≡ None → p < 8 * n * b.pruned
is_pruned n b p i pos at below none = elim (cases_lt p (8 * n * b.pruned)) [
  | inl under ↦ under
  | inr above ↦
      let low : b.pruned ≤ i = omega (arith, at, le-div b.pruned p (8 * n) pos (omega (arith, above))) in
      let start : 8 * n * i < bit_len n b = rw at (omega (arith, mul-div-le p (8 * n))) in
      let some : retained_bytes n b i ≡ Some (chunk n b i) = rw (le-leb b.pruned i low, lt-ltb (8 * n * i) (bit_len n b) start) refl in
      absurd (cc)
]
