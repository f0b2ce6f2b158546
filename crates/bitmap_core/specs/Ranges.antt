-- A range of the bits of a list that is set to one value.
use Rattle.std.specs.Prelude.{◌≡◌, ℕ, ◌<◌, ◌≤◌, ◌⊎◌, Bool, false, not, ◌&&◌, List, length, map, nat_lt, if◌then◌else◌, slice_index_or}
use Rattle.std.specs.List.{range_with_len}
use Rattle.bitmap_bytes.specs.Bits.{chunks_bit}

-- whether position k is in the range from lo up to hi, hi excluded
abbrev pub is_between : ℕ → ℕ → ℕ → Bool
is_between lo hi k = not (nat_lt k lo) && nat_lt k hi

-- the list with x as each bit from position lo up to hi, hi excluded, and its own bits at the other positions
abbrev pub set_between : List Bool → ℕ → ℕ → Bool → List Bool
set_between v lo hi x = map (λ k. if is_between lo hi k then x else slice_index_or v k false)
    (range_with_len 0 (length v))

-- the new chunks have x as each bit from position lo up to hi, hi excluded, and every other bit as the old chunks have it
pub record IsRangePut (n : ℕ) (old new : List (List ℕ)) (lo hi : ℕ) (x : Bool) : Type 0 where
  pub inside : (i : ℕ) → lo ≤ i → i < hi → chunks_bit n new i ≡ x
  pub outside : (i : ℕ) → (i < lo) ⊎ (hi ≤ i) → chunks_bit n new i ≡ chunks_bit n old i
  pub count : length new ≡ length old
