-- A chunk past the end of a bitmap has no bytes.
use Rattle.std.proofs.Common.{◌≡◌, ℕ, ◌*◌, ◌<◌, ◌≤◌, arith, sym}
use mathlib.Core.Logic.{inl, inr}
use Rattle.std.proofs.lemmas.Bool.{cases_lt}
use Rattle.std.specs.Int.{div_ceil}
use Rattle.std.specs.Prelude.{None}
use Rattle.bitmap_core.specs.PrunedBits.{PrunedBits, bit_len}
use Rattle.bitmap_core.proofs.Pruned.Positions.{ceil_above_index}
use Rattle.historical_bitmap.specs.Changes.{retained_bytes}
use Rattle.historical_bitmap.proofs.Changes.Unnamed.{bytes_none}

pub bytes_past : (n : ℕ) (b : PrunedBits) (i : ℕ) → 0 < n → div_ceil (bit_len n b) (8 * n) ≤ i → None ≡ retained_bytes n b i
bytes_past n b i pos past = elim (cases_lt (8 * n * i) (bit_len n b)) [
  | inl s ↦ let below = ceil_above_index n (bit_len n b) i pos s in absurd (omega (arith, past, below))
  | inr s ↦ sym (bytes_none n b i (inr s))
]
