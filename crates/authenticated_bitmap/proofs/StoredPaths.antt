-- The audit path of a leaf, from the stored digests.
use Rattle.std.proofs.Common.{◌≡◌, ℕ, suc, ◌+◌, ◌-◌, ◌*◌, ◌^◌, ◌<◌, ◌≤◌, List, [], ◌∷◌, ◌++◌, length, take, drop, reverse, sym, ap, ◌∙◌, arith, append_assoc}
use Rattle.std.proofs.lemmas.List.{take_all, reverse-append, length-take, length-drop}
use Rattle.std.proofs.lemmas.Nat.{pow_pos}
use Rattle.authenticated_bitmap.specs.Tree.{subtree_hash, siblings}
use Rattle.authenticated_bitmap.specs.Stored.{leaves_under}
use Rattle.authenticated_bitmap.proofs.Complete.{twice}
use Rattle.authenticated_bitmap.proofs.Steps.{siblings_low, siblings_left, siblings_right}
use Rattle.authenticated_bitmap.proofs.FromStored.{left_part, right_part, part_length}

pushed : (old below : List (List ℕ)) (top : List ℕ) → (old ++ reverse below) ++ top ∷ [] ≡ old ++ reverse (top ∷ below)
pushed old below top = append_assoc old (reverse below) (top ∷ []) ∙ ap (λ s. old ++ s) (sym (reverse-append (top ∷ []) below))

module _ (H : List ℕ → List ℕ) (digests : List (List ℕ)) (k index i : ℕ) where
  begin : (2 * index) * 2 ^ k ≡ index * 2 ^ suc k
  begin = omega (arith, ap (λ x. index * x) (twice k))

  middle : (2 * index + 1) * 2 ^ k ≡ index * 2 ^ suc k + 2 ^ k
  middle = omega (arith, ap (λ x. index * x) (twice k))

  more : (2 * index + 1) * 2 ^ k < length digests → 2 ^ k < length (leaves_under (suc k) index digests)
  more many = omega (arith, length-take (2 ^ suc k) (drop (index * 2 ^ suc k) digests), length-drop (index * 2 ^ suc k) digests, many, middle, twice k, pow_pos k)

  path_low : length digests ≤ (2 * index + 1) * 2 ^ k → siblings H k (i - (2 * index) * 2 ^ k) (leaves_under k (2 * index) digests) ≡ siblings H (suc k) (i - index * 2 ^ suc k) (leaves_under (suc k) index digests)
  path_low few =
      let fits : length (leaves_under (suc k) index digests) ≤ 2 ^ k = omega (arith, part_length H digests k index, few, middle) in
      ap (λ b. siblings H k (i - b) (leaves_under k (2 * index) digests)) begin
      ∙ ap (siblings H k (i - index * 2 ^ suc k)) (left_part H digests k index ∙ take_all (2 ^ k) (leaves_under (suc k) index digests) fits)
      ∙ sym (siblings_low H k (i - index * 2 ^ suc k) (leaves_under (suc k) index digests) fits)

  path_left : (2 * index + 1) * 2 ^ k < length digests → index * 2 ^ suc k ≤ i → i < (2 * index + 1) * 2 ^ k
      → subtree_hash H k (leaves_under k (2 * index + 1) digests) ∷ siblings H k (i - (2 * index) * 2 ^ k) (leaves_under k (2 * index) digests) ≡ siblings H (suc k) (i - index * 2 ^ suc k) (leaves_under (suc k) index digests)
  path_left many from to =
      ap (λ b. subtree_hash H k (leaves_under k (2 * index + 1) digests) ∷ siblings H k (i - b) (leaves_under k (2 * index) digests)) begin
      ∙ ap (λ xs. subtree_hash H k xs ∷ siblings H k (i - index * 2 ^ suc k) (leaves_under k (2 * index) digests)) (right_part H digests k index)
      ∙ ap (λ xs. subtree_hash H k (drop (2 ^ k) (leaves_under (suc k) index digests)) ∷ siblings H k (i - index * 2 ^ suc k) xs) (left_part H digests k index)
      ∙ sym (siblings_left H k (i - index * 2 ^ suc k) (leaves_under (suc k) index digests) (more many) (omega (arith, middle, to, from)))

  path_right : (2 * index + 1) * 2 ^ k < length digests → (2 * index + 1) * 2 ^ k ≤ i
      → subtree_hash H k (leaves_under k (2 * index) digests) ∷ siblings H k (i - (2 * index + 1) * 2 ^ k) (leaves_under k (2 * index + 1) digests) ≡ siblings H (suc k) (i - index * 2 ^ suc k) (leaves_under (suc k) index digests)
  path_right many from =
      let at : i - (2 * index + 1) * 2 ^ k ≡ (i - index * 2 ^ suc k) - 2 ^ k = omega (arith, middle) in
      ap (λ j. subtree_hash H k (leaves_under k (2 * index) digests) ∷ siblings H k j (leaves_under k (2 * index + 1) digests)) at
      ∙ ap (λ xs. subtree_hash H k xs ∷ siblings H k ((i - index * 2 ^ suc k) - 2 ^ k) (leaves_under k (2 * index + 1) digests)) (left_part H digests k index)
      ∙ ap (λ xs. subtree_hash H k (take (2 ^ k) (leaves_under (suc k) index digests)) ∷ siblings H k ((i - index * 2 ^ suc k) - 2 ^ k) xs) (right_part H digests k index)
      ∙ sym (siblings_right H k (i - index * 2 ^ suc k) (leaves_under (suc k) index digests) (more many) (omega (arith, middle, from)))

-- the same at a level above 0
module _ (H : List ℕ → List ℕ) (digests : List (List ℕ)) (level index i : ℕ) (p : 0 < level) where
  up : suc (level - 1) ≡ level
  up = omega arith

  pub code_path_low : length digests ≤ (2 * index + 1) * 2 ^ (level - 1) → siblings H (level - 1) (i - (2 * index) * 2 ^ (level - 1)) (leaves_under (level - 1) (2 * index) digests) ≡ siblings H level (i - index * 2 ^ level) (leaves_under level index digests)
  code_path_low few = path_low H digests (level - 1) index i few ∙ ap (λ l. siblings H l (i - index * 2 ^ l) (leaves_under l index digests)) up

  pub code_path_left : (old : List (List ℕ)) → (2 * index + 1) * 2 ^ (level - 1) < length digests → index * 2 ^ level ≤ i → i < (2 * index + 1) * 2 ^ (level - 1)
      → (old ++ reverse (siblings H (level - 1) (i - (2 * index) * 2 ^ (level - 1)) (leaves_under (level - 1) (2 * index) digests))) ++ subtree_hash H (level - 1) (leaves_under (level - 1) (2 * index + 1) digests) ∷ []
      ≡ old ++ reverse (siblings H level (i - index * 2 ^ level) (leaves_under level index digests))
  code_path_left old many from to =
      let from' : index * 2 ^ suc (level - 1) ≤ i = omega (arith, from, ap (λ l. index * 2 ^ l) up) in
      pushed old (siblings H (level - 1) (i - (2 * index) * 2 ^ (level - 1)) (leaves_under (level - 1) (2 * index) digests)) (subtree_hash H (level - 1) (leaves_under (level - 1) (2 * index + 1) digests))
      ∙ ap (λ s. old ++ reverse s) (path_left H digests (level - 1) index i many from' to ∙ ap (λ l. siblings H l (i - index * 2 ^ l) (leaves_under l index digests)) up)

  pub code_path_right : (old : List (List ℕ)) → (2 * index + 1) * 2 ^ (level - 1) < length digests → (2 * index + 1) * 2 ^ (level - 1) ≤ i
      → (old ++ reverse (siblings H (level - 1) (i - (2 * index + 1) * 2 ^ (level - 1)) (leaves_under (level - 1) (2 * index + 1) digests))) ++ subtree_hash H (level - 1) (leaves_under (level - 1) (2 * index) digests) ∷ []
      ≡ old ++ reverse (siblings H level (i - index * 2 ^ level) (leaves_under level index digests))
  code_path_right old many from =
      pushed old (siblings H (level - 1) (i - (2 * index + 1) * 2 ^ (level - 1)) (leaves_under (level - 1) (2 * index + 1) digests)) (subtree_hash H (level - 1) (leaves_under (level - 1) (2 * index) digests))
      ∙ ap (λ s. old ++ reverse s) (path_right H digests (level - 1) index i many from ∙ ap (λ l. siblings H l (i - index * 2 ^ l) (leaves_under l index digests)) up)
