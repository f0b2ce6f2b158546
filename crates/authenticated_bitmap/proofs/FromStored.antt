-- The digest of any part of the tree, from the stored ones.
use Rattle.std.proofs.Common.{◌≡◌, ℕ, zero, suc, ◌+◌, ◌-◌, ◌*◌, ◌^◌, ◌<◌, ◌≤◌, List, [], length, take, drop, get_or, replicate, sym, ap, ◌∙◌, arith}
use Rattle.std.proofs.lemmas.List.{length-drop, length-take, take_all, take-take, drop-take, drop-drop, length-replicate}
use Rattle.std.specs.Prelude.{count_ones}
use Rattle.std.proofs.lemmas.Nat.{pow_pos}
use Rattle.authenticated_bitmap.specs.Tree.{node_hash, subtree_hash}
use Rattle.authenticated_bitmap.specs.Stored.{stored, nodes, position, leaves_under}
use Rattle.authenticated_bitmap.proofs.Complete.{twice, below_power}
use Rattle.authenticated_bitmap.proofs.Heights.{tree_at}
use Rattle.authenticated_bitmap.proofs.Steps.{hash_low, hash_split}
use Rattle.authenticated_bitmap.proofs.Nodes.{counted}
use Rattle.authenticated_bitmap.proofs.Places.{at_height, stores_subtrees}

-- a complete subtree is stored
pub place_within : (n level index : ℕ) → (index + 1) * 2 ^ level ≤ n → position level index < nodes n
place_within n level index b =
    let nothing : List ℕ = [] in
    let digests = replicate n nothing in
    let l : length digests ≡ n = length-replicate n nothing in
    let h : length digests ≤ 2 ^ n = omega (arith, below_power n) in
    let a = at_height (λ x. x) n digests level index (omega arith) h in
    omega (arith, a.within, counted (λ x. x) n digests h, l, ap count_ones l)

pub whole : (H : List ℕ → List ℕ) (digests : List (List ℕ)) (level index : ℕ) → (index + 1) * 2 ^ level ≤ length digests
    → get_or (stored H digests) (position level index) [] ≡ subtree_hash H level (leaves_under level index digests)
whole H digests level index b =
    let fits : length (leaves_under level index digests) ≤ 2 ^ level = omega (arith, length-take (2 ^ level) (drop (index * 2 ^ level) digests)) in
    (stores_subtrees H).at digests level index b ∙ sym (tree_at H level (leaves_under level index digests) fits)

module _ (H : List ℕ → List ℕ) (digests : List (List ℕ)) (k index : ℕ) where
  pub left_part : leaves_under k (2 * index) digests ≡ take (2 ^ k) (leaves_under (suc k) index digests)
  left_part =
      let s : (2 * index) * 2 ^ k ≡ index * 2 ^ suc k = omega (arith, ap (λ x. index * x) (twice k)) in
      ap (λ n. take (2 ^ k) (drop n digests)) s ∙ sym (take-take (2 ^ k) (2 ^ suc k) (drop (index * 2 ^ suc k) digests) (omega (arith, twice k)))

  pub right_part : leaves_under k (2 * index + 1) digests ≡ drop (2 ^ k) (leaves_under (suc k) index digests)
  right_part =
      let s : (2 * index + 1) * 2 ^ k ≡ index * 2 ^ suc k + 2 ^ k = omega (arith, ap (λ x. index * x) (twice k)) in
      ap (λ n. take (2 ^ k) (drop n digests)) s ∙ sym (ap (take (2 ^ k)) (drop-drop (2 ^ k) (index * 2 ^ suc k) digests))
      ∙ sym (drop-take (2 ^ k) (2 ^ k) (drop (index * 2 ^ suc k) digests)) ∙ ap (λ n. drop (2 ^ k) (take n (drop (index * 2 ^ suc k) digests))) (sym (twice k))

  pub part_length : length (leaves_under (suc k) index digests) ≤ length digests - index * 2 ^ suc k
  part_length = omega (arith, length-take (2 ^ suc k) (drop (index * 2 ^ suc k) digests), length-drop (index * 2 ^ suc k) digests)

  one_part : length digests ≤ (2 * index + 1) * 2 ^ k → subtree_hash H k (leaves_under k (2 * index) digests) ≡ subtree_hash H (suc k) (leaves_under (suc k) index digests)
  one_part few =
      let fits : length (leaves_under (suc k) index digests) ≤ 2 ^ k = omega (arith, part_length, few, ap (λ x. index * x) (twice k)) in
      ap (subtree_hash H k) (left_part ∙ take_all (2 ^ k) (leaves_under (suc k) index digests) fits) ∙ sym (hash_low H k (leaves_under (suc k) index digests) fits)

  pub two_parts : (2 * index + 1) * 2 ^ k < length digests → node_hash H (subtree_hash H k (leaves_under k (2 * index) digests)) (subtree_hash H k (leaves_under k (2 * index + 1) digests)) ≡ subtree_hash H (suc k) (leaves_under (suc k) index digests)
  two_parts many =
      let more : 2 ^ k < length (leaves_under (suc k) index digests) =
      omega (arith, length-take (2 ^ suc k) (drop (index * 2 ^ suc k) digests), length-drop (index * 2 ^ suc k) digests, many, ap (λ x. index * x) (twice k), twice k, pow_pos k) in
      ap (λ xs. node_hash H (subtree_hash H k xs) (subtree_hash H k (leaves_under k (2 * index + 1) digests))) left_part
      ∙ ap (λ xs. node_hash H (subtree_hash H k (take (2 ^ k) (leaves_under (suc k) index digests))) (subtree_hash H k xs)) right_part
      ∙ sym (hash_split H k (leaves_under (suc k) index digests) more)

-- the same at a level above 0
module _ (H : List ℕ → List ℕ) (digests : List (List ℕ)) (level index : ℕ) (p : 0 < level) where
  up : suc (level - 1) ≡ level
  up = omega arith

  pub code_one_part : length digests ≤ (2 * index + 1) * 2 ^ (level - 1) → subtree_hash H (level - 1) (leaves_under (level - 1) (2 * index) digests) ≡ subtree_hash H level (leaves_under level index digests)
  code_one_part few = one_part H digests (level - 1) index few ∙ ap (λ l. subtree_hash H l (leaves_under l index digests)) up

  pub code_two_parts : (2 * index + 1) * 2 ^ (level - 1) < length digests → node_hash H (subtree_hash H (level - 1) (leaves_under (level - 1) (2 * index) digests)) (subtree_hash H (level - 1) (leaves_under (level - 1) (2 * index + 1) digests)) ≡ subtree_hash H level (leaves_under level index digests)
  code_two_parts many = two_parts H digests (level - 1) index many ∙ ap (λ l. subtree_hash H l (leaves_under l index digests)) up

-- numbers at a level above 0
pub level_down : (level index : ℕ) → 0 < level → (2 * index) * 2 ^ (level - 1) ≡ index * 2 ^ level
level_down level index p =
    let k = level - 1 in
    let e : suc k ≡ level = omega arith in
    let t : 2 ^ level ≡ 2 ^ k + 2 ^ k = ap (λ n. 2 ^ n) (sym e) ∙ twice k in
    omega (arith, ap (λ x. index * x) t)

pub level_positive : (level index n : ℕ) → index * 2 ^ level < n → n < index * 2 ^ level + 2 ^ level → 0 < level
level_positive zero index n a b = absurd (omega arith)
level_positive (suc level) index n a b = omega arith
