-- A leaf is appended: its digest, and then one for each subtree that it completes.
use Rattle.std.proofs.Common.{◌≡◌, ℕ, zero, suc, ◌+◌, ◌-◌, ◌*◌, ◌/◌, ◌^◌, ◌<◌, ◌≤◌, List, [], ◌∷◌, ◌++◌, length, take, drop, get_or, refl, inl, inr, sym, ap, ◌∙◌, arith, append_assoc}
use Rattle.std.specs.Prelude.{count_ones}
use Rattle.std.proofs.lemmas.List.{take_more, take_all, drop-append-le, drop_all, get_or-take, length-append, take_at, take-append-drop}
use Rattle.std.proofs.lemmas.Nat.{pow_pos, ones_cat, ones_le_self}
use Rattle.authenticated_bitmap.specs.Tree.{node_hash, subtree_hash}
use Rattle.authenticated_bitmap.specs.Stored.{stored, nodes, position, leaves_under}
use Rattle.authenticated_bitmap.proofs.Complete.{twice}
use Rattle.authenticated_bitmap.proofs.Nodes.{ones_zero, ones_one}
use Rattle.authenticated_bitmap.proofs.Places.{stores_subtrees}
use Rattle.authenticated_bitmap.proofs.FromStored.{place_within, whole, two_parts}
use Rattle.authenticated_bitmap.proofs.Tests.{le_or_lt}

-- the set bits of a multiple of a power of two
ones_of : (m level : ℕ) → count_ones (m * 2 ^ level) ≡ count_ones m
ones_of m level = let e : m * 2 ^ level + 0 ≡ m * 2 ^ level = omega arith in sym (ap count_ones e) ∙ ones_cat level m 0 (pow_pos level) ∙ omega (arith, ones_zero)

ones_even : (j : ℕ) → count_ones (2 * j) ≡ count_ones j
ones_even j = let e : j * 2 ^ 1 ≡ 2 * j = omega arith in sym (ap count_ones e) ∙ ones_of j 1

ones_odd : (j : ℕ) → count_ones (2 * j + 1) ≡ count_ones j + 1
ones_odd j = let e : j * 2 ^ 1 + 1 ≡ 2 * j + 1 = omega arith in sym (ap count_ones e) ∙ ones_cat 1 j 1 (omega arith) ∙ omega (arith, ones_one)

few_ones : (m level : ℕ) → count_ones m ≤ m * 2 ^ level
few_ones m level = omega (arith, ones_le_self (m * 2 ^ level), ones_of m level)

twice_more : (level : ℕ) → 2 ^ (level + 1) ≡ 2 ^ level + 2 ^ level
twice_more level = let up : level + 1 ≡ suc level = omega arith in ap (λ l. 2 ^ l) up ∙ twice level

-- the place after that of a second half is the place of the whole
place_above : (level j : ℕ) → position level (2 * j + 1) + 1 ≡ position (level + 1) j
place_above level j =
    let half : (2 * j + 1) * 2 ^ level ≡ j * 2 ^ (level + 1) + 2 ^ level = omega (arith, ap (λ x. j * x) (twice_more level)) in
    omega (arith, half, twice_more level, pow_pos level, ones_of (2 * j + 1) level, ones_odd j, ones_of j (level + 1), few_ones j (level + 1), few_ones (2 * j + 1) level)

-- the place after that of a first half is past the digests of the leaves so far
place_end : (level j : ℕ) → position level (2 * j) + 1 ≡ nodes ((2 * j + 1) * 2 ^ level)
place_end level j =
    let half : (2 * j + 1) * 2 ^ level ≡ (2 * j) * 2 ^ level + 2 ^ level = omega arith in
    omega (arith, half, pow_pos level, ones_of (2 * j + 1) level, ones_odd j, ones_of (2 * j) level, ones_even j, few_ones (2 * j) level, few_ones (2 * j + 1) level)

stored_count : (H : List ℕ → List ℕ) (digests : List (List ℕ)) → length (stored H digests) ≡ nodes (length digests)
stored_count H digests = (stores_subtrees H).count digests

-- numbers, where index is the number of a second half
module _ (level index : ℕ) (odd : index ≡ 2 * (index / 2) + 1) where
  first_half : index - 1 ≡ 2 * (index / 2)
  first_half = omega (arith, odd)

  pub halved : (index / 2 + 1) * 2 ^ (level + 1) ≡ (index + 1) * 2 ^ level
  halved = omega (arith, ap (λ i. (i + 1) * 2 ^ level) odd, ap (λ x. (index / 2) * x) (twice_more level), twice_more level)

  pub code_place_above : position level index + 1 ≡ position (level + 1) (index / 2)
  code_place_above = ap (λ i. position level i + 1) odd ∙ place_above level (index / 2)

  pub code_place_before : position level (index - 1) < position level index + 1
  code_place_before =
      let e : position level (index - 1) ≡ position level (2 * (index / 2)) = ap (λ i. position level i) first_half in
      let f : position level index ≡ nodes ((2 * (index / 2) + 1) * 2 ^ level) + (2 * 2 ^ level - 2) = ap (λ i. position level i) odd in
      omega (arith, e, f, place_end level (index / 2))

  -- the whole is not higher than the tree
  pub code_deeper : (index + 1) * 2 ^ level ≤ 2 ^ 61 → level ≤ 61 → level + 1 ≤ 61
  code_deeper fits low = elim (le_or_lt (level + 1) 61) [
    | inl le ↦ le
    | inr lt ↦ (
        let e : level ≡ 61 = omega arith in
        let p : 2 ^ level ≡ 2 ^ 61 = ap (λ l. 2 ^ l) e in
        let i : index ≡ (index - 1) + 1 = omega (arith, odd) in
        absurd (omega (arith, fits, p, ap (λ k. k * 2 ^ level) i)))
  ]

  pub code_fits : (index + 1) * 2 ^ level ≤ 2 ^ 61 → (index - 1 + 1) * 2 ^ level < 2 ^ 62
  code_fits fits =
      let i : index - 1 + 1 ≡ index = omega (arith, odd) in
      omega (arith, fits, ap (λ k. k * 2 ^ level) i)

module _ (H : List ℕ → List ℕ) (all : List (List ℕ)) (level index : ℕ) (odd : index ≡ 2 * (index / 2) + 1) (l : length all ≡ (index + 1) * 2 ^ level) (items : List (List ℕ)) (left above : List ℕ)
    (is : items ≡ take (position level index + 1) (stored H all)) (left_is : left ≡ get_or items (position level (index - 1)) []) (above_is : above ≡ subtree_hash H level (leaves_under level index all)) where
  count_is : (index / 2 + 1) * 2 ^ (level + 1) ≤ length all
  count_is = omega (arith, l, halved level index odd)

  first_within : (2 * (index / 2) + 1) * 2 ^ level < length all
  first_within = omega (arith, l, ap (λ i. (i + 1) * 2 ^ level) odd, pow_pos level)

  left_hash : left ≡ subtree_hash H level (leaves_under level (2 * (index / 2)) all)
  left_hash =
      left_is ∙ ap (λ xs. get_or xs (position level (index - 1)) []) is
      ∙ get_or-take (position level index + 1) (stored H all) (position level (index - 1)) [] (code_place_before level index odd)
      ∙ ap (λ i. get_or (stored H all) (position level i) []) (first_half level index odd)
      ∙ whole H all level (2 * (index / 2)) (omega (arith, first_within))

  -- the digest of the whole, from those of its halves
  pub code_whole : node_hash H left above ≡ subtree_hash H (level + 1) (leaves_under (level + 1) (index / 2) all)
  code_whole =
      let up : suc level ≡ level + 1 = omega arith in
      ap (λ x. node_hash H x above) left_hash
      ∙ ap (λ x. node_hash H (subtree_hash H level (leaves_under level (2 * (index / 2)) all)) x) (above_is ∙ ap (λ i. subtree_hash H level (leaves_under level i all)) odd)
      ∙ two_parts H all level (index / 2) first_within
      ∙ ap (λ k. subtree_hash H k (leaves_under k (index / 2) all)) up

  -- it is stored next
  pub code_completes : items ++ node_hash H left above ∷ [] ≡ take (position (level + 1) (index / 2) + 1) (stored H all)
  code_completes =
      let p = position (level + 1) (index / 2) in
      let within : p < length (stored H all) = omega (arith, place_within (length all) (level + 1) (index / 2) count_is, stored_count H all) in
      ap (λ xs. xs ++ node_hash H left above ∷ []) (is ∙ ap (λ k. take k (stored H all)) (code_place_above level index odd))
      ∙ ap (λ x. take p (stored H all) ++ x ∷ []) (code_whole ∙ sym (whole H all (level + 1) (index / 2) count_is))
      ∙ sym (take_more (stored H all) p [] within)

-- a first half completes nothing
module _ (level index : ℕ) (even : index ≡ 2 * (index / 2)) where
  pub code_place_end : position level index + 1 ≡ nodes ((index + 1) * 2 ^ level)
  code_place_end = ap (λ i. position level i + 1) even ∙ place_end level (index / 2) ∙ sym (ap (λ i. nodes ((i + 1) * 2 ^ level)) even)

  pub code_finishes : (H : List ℕ → List ℕ) (all items : List (List ℕ)) → length all ≡ (index + 1) * 2 ^ level → items ≡ take (position level index + 1) (stored H all) → items ≡ stored H all
  code_finishes H all items l is =
      let whole_length : position level index + 1 ≡ length (stored H all) = code_place_end ∙ ap (λ n. nodes n) (sym l) ∙ sym (stored_count H all) in
      is ∙ take_all (position level index + 1) (stored H all) (omega (arith, whole_length))

-- the digest of the leaf comes first
subtree_of_leaf : (H : List ℕ → List ℕ) (digest : List ℕ) → subtree_hash H zero (digest ∷ []) ≡ digest
unfolding subtree_hash
subtree_of_leaf H digest = refl

pub code_leaf_place : (n : ℕ) → position 0 n ≡ nodes n
code_leaf_place n = let e : n * 2 ^ 0 ≡ n = omega arith in let z : 2 * 2 ^ 0 - 2 ≡ 0 = omega arith in omega (arith, ap (λ m. nodes m) e, z)

module _ (H : List ℕ → List ℕ) (digests : List (List ℕ)) (n : ℕ) (l : length digests ≡ n) (digest : List ℕ) where
  pub code_leaf_count : length (digests ++ digest ∷ []) ≡ (n + 1) * 2 ^ 0
  code_leaf_count = omega (arith, length-append digests (digest ∷ []), l)

  last_leaf : leaves_under 0 n (digests ++ digest ∷ []) ≡ digest ∷ []
  last_leaf =
      let e : n * 2 ^ 0 ≡ n = omega arith in
      ap (λ k. take (2 ^ 0) (drop k (digests ++ digest ∷ []))) e
      ∙ ap (take (2 ^ 0)) (drop-append-le n digests (digest ∷ []) (omega (arith, l)) ∙ ap (λ xs. xs ++ digest ∷ []) (drop_all n digests (omega (arith, l))))

  pub code_leaf_hash : digest ≡ subtree_hash H 0 (leaves_under 0 n (digests ++ digest ∷ []))
  code_leaf_hash = sym (ap (subtree_hash H 0) last_leaf ∙ subtree_of_leaf H digest)

  pub code_begins : stored H digests ++ digest ∷ [] ≡ take (position 0 n + 1) (stored H (digests ++ digest ∷ []))
  code_begins =
      let all = digests ++ digest ∷ [] in
      let p = position 0 n in
      let grown = (stores_subtrees H).grows digests (digest ∷ []) in
      let old : p ≡ length (stored H digests) = code_leaf_place n ∙ ap (λ m. nodes m) (sym l) ∙ sym (stored_count H digests) in
      let fits : (n + 1) * 2 ^ 0 ≤ length all = omega (arith, code_leaf_count) in
      let within : p < length (stored H all) = omega (arith, place_within (length all) 0 n fits, stored_count H all) in
      let front : take p (stored H all) ≡ stored H digests =
      ap (take p) grown.1 ∙ take_at (stored H digests) grown.0 p (sym old) in
      ap (λ x. stored H digests ++ x ∷ []) (code_leaf_hash ∙ sym (whole H all 0 n fits))
      ∙ ap (λ xs. xs ++ get_or (stored H all) p [] ∷ []) (sym front)
      ∙ sym (take_more (stored H all) p [] within)

-- what has the items so far and one more begins with the items so far
pub begins_on : (items start new : List (List ℕ)) (digest : List ℕ) → take (length items) new ≡ items → items ≡ start ++ digest ∷ [] → take (length start) new ≡ start
begins_on items start new digest h e =
    let rest : List (List ℕ) = drop (length items) new in
    let all : new ≡ start ++ (digest ∷ [] ++ rest) = sym (take-append-drop (length items) new) ∙ ap (λ xs. xs ++ rest) (h ∙ e) ∙ append_assoc start (digest ∷ []) rest in
    ap (take (length start)) all ∙ take_at start (digest ∷ [] ++ rest) (length start) refl

pub same_count : (items start : List (List ℕ)) (digest : List ℕ) → items ≡ start ++ digest ∷ [] → length items ≡ length start + 1
same_count items start digest e = ap length e ∙ length-append start (digest ∷ [])
