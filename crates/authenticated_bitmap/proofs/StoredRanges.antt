-- The digests beside a range, from the stored digests.
use Rattle.std.proofs.Common.{◌≡◌, ℕ, suc, ◌+◌, ◌-◌, ◌*◌, ◌^◌, ◌<◌, ◌≤◌, min, List, ◌++◌, length, take, drop, sym, ap, ◌∙◌, arith, append_assoc}
use Rattle.std.proofs.lemmas.List.{take_all, length-take, length-drop}
use Rattle.std.proofs.lemmas.Nat.{pow_pos}
use Rattle.authenticated_bitmap.specs.Range.{siblings_below}
use Rattle.authenticated_bitmap.specs.Stored.{leaves_under}
use Rattle.authenticated_bitmap.proofs.Complete.{twice}
use Rattle.authenticated_bitmap.proofs.FromStored.{left_part, right_part, part_length}
use Rattle.authenticated_bitmap.proofs.RangeSteps.{range_low, range_split}

module _ (H : List ℕ → List ℕ) (digests : List (List ℕ)) (k index first count : ℕ) where
  middle : (2 * index + 1) * 2 ^ k ≡ index * 2 ^ suc k + 2 ^ k
  middle = omega (arith, ap (λ x. index * x) (twice k))

  stored_low : length digests ≤ (2 * index + 1) * 2 ^ k → siblings_below H k first count (leaves_under k (2 * index) digests) ≡ siblings_below H (suc k) first count (leaves_under (suc k) index digests)
  stored_low few =
      let fits : length (leaves_under (suc k) index digests) ≤ 2 ^ k = omega (arith, part_length H digests k index, few, middle) in
      ap (siblings_below H k first count) (left_part H digests k index ∙ take_all (2 ^ k) (leaves_under (suc k) index digests) fits)
      ∙ sym (range_low H k first count (leaves_under (suc k) index digests) fits)

  stored_split : 0 < count → (2 * index + 1) * 2 ^ k < length digests
      → siblings_below H k first (min (2 ^ k - first) count) (leaves_under k (2 * index) digests) ++ siblings_below H k (first - 2 ^ k) (count - (2 ^ k - first)) (leaves_under k (2 * index + 1) digests)
      ≡ siblings_below H (suc k) first count (leaves_under (suc k) index digests)
  stored_split some many =
      let all = leaves_under (suc k) index digests in
      let more : 2 ^ k < length all = omega (arith, length-take (2 ^ suc k) (drop (index * 2 ^ suc k) digests), length-drop (index * 2 ^ suc k) digests, many, middle, twice k, pow_pos k) in
      ap (λ xs. siblings_below H k first (min (2 ^ k - first) count) xs ++ siblings_below H k (first - 2 ^ k) (count - (2 ^ k - first)) (leaves_under k (2 * index + 1) digests)) (left_part H digests k index)
      ∙ ap (λ xs. siblings_below H k first (min (2 ^ k - first) count) (take (2 ^ k) all) ++ siblings_below H k (first - 2 ^ k) (count - (2 ^ k - first)) xs) (right_part H digests k index)
      ∙ sym (range_split H k first count all some more)

-- the same at a level above 0
module _ (H : List ℕ → List ℕ) (digests : List (List ℕ)) (level index first count : ℕ) (p : 0 < level) where
  up : suc (level - 1) ≡ level
  up = omega arith

  pub code_stored_low : length digests ≤ (2 * index + 1) * 2 ^ (level - 1) → siblings_below H (level - 1) first count (leaves_under (level - 1) (2 * index) digests) ≡ siblings_below H level first count (leaves_under level index digests)
  code_stored_low few = stored_low H digests (level - 1) index first count few ∙ ap (λ l. siblings_below H l first count (leaves_under l index digests)) up

  pub code_stored_split : (half : ℕ) (old : List (List ℕ)) → half ≡ 2 ^ (level - 1) → 0 < count → (2 * index + 1) * 2 ^ (level - 1) < length digests
      → (old ++ siblings_below H (level - 1) first (min (half - first) count) (leaves_under (level - 1) (2 * index) digests)) ++ siblings_below H (level - 1) (first - half) (count - (half - first)) (leaves_under (level - 1) (2 * index + 1) digests)
      ≡ old ++ siblings_below H level first count (leaves_under level index digests)
  code_stored_split half old e some many =
      append_assoc old (siblings_below H (level - 1) first (min (half - first) count) (leaves_under (level - 1) (2 * index) digests)) (siblings_below H (level - 1) (first - half) (count - (half - first)) (leaves_under (level - 1) (2 * index + 1) digests))
      ∙ ap (λ m. old ++ (siblings_below H (level - 1) first (min (m - first) count) (leaves_under (level - 1) (2 * index) digests) ++ siblings_below H (level - 1) (first - m) (count - (m - first)) (leaves_under (level - 1) (2 * index + 1) digests))) e
      ∙ ap (λ s. old ++ s) (stored_split H digests (level - 1) index first count some many ∙ ap (λ l. siblings_below H l first count (leaves_under l index digests)) up)
