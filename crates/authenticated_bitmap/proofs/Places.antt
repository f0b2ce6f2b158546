-- The digest of each complete subtree stands at its place.
use Rattle.std.proofs.Common.{◌≡◌, ℕ, zero, suc, ◌+◌, ◌-◌, ◌*◌, ◌^◌, ◌<◌, ◌≤◌, List, [], ◌∷◌, ◌++◌, length, take, drop, get_or, inl, inr, refl, sym, ap, subst, ◌∙◌, arith}
use Rattle.std.specs.Prelude.{count_ones}
use Rattle.std.proofs.Math.Nat.{mul-le-mul_left}
use Rattle.std.proofs.Math.Pow.{pow_mono, pow-lt}
use Rattle.std.proofs.lemmas.List.{length-append, length-take-le, length-drop, take_all, take-take, drop-take, drop-drop, get_or_append_left, get_or-append-add, get_or_at}
use Rattle.std.proofs.lemmas.Nat.{pow_pos, pow-add, ones_le_self}
use Rattle.authenticated_bitmap.specs.Tree.{subtree_hash, tree_hash}
use Rattle.authenticated_bitmap.specs.Stored.{stored_below, position, leaves_under, StoresSubtrees}
use Rattle.authenticated_bitmap.proofs.Tests.{le_or_lt}
use Rattle.authenticated_bitmap.proofs.Complete.{twice, below_power}
use Rattle.authenticated_bitmap.proofs.Heights.{tree_at}
use Rattle.authenticated_bitmap.proofs.Nodes.{top, below_suc, below_low, below_full, counted, ones_zero, ones_power, ones_above, grown, stored_at_height}

-- what stands at a place
pub record At (H : List ℕ → List ℕ) (k : ℕ) (digests : List (List ℕ)) (level index : ℕ) : Type 0 where
  pub within : position level index < length (stored_below H k digests)
  pub is : get_or (stored_below H k digests) (position level index) [] ≡ tree_hash H (leaves_under level index digests)

module _ (H : List ℕ → List ℕ) (k : ℕ) (digests : List (List ℕ)) (high : 2 ^ k < length digests) (h : length digests ≤ 2 ^ suc k) where
  front_length : length (stored_below H k (take (2 ^ k) digests)) + 1 ≡ 2 * 2 ^ k
  front_length =
      let l : length (take (2 ^ k) digests) ≡ 2 ^ k = length-take-le (2 ^ k) digests (omega arith) in
      let o : count_ones (length (take (2 ^ k) digests)) ≡ 1 = ap count_ones l ∙ ones_power k in
      omega (arith, counted H k (take (2 ^ k) digests) (omega arith), l, o)

  -- in the left half
  at_left : (level index : ℕ) → (index + 1) * 2 ^ level ≤ 2 ^ k → At H k (take (2 ^ k) digests) level index → At H (suc k) digests level index
  at_left level index b a =
      let p = position level index in
      let x = stored_below H k (take (2 ^ k) digests) in
      let y = stored_below H k (drop (2 ^ k) digests) in
      let s = index * 2 ^ level in
      let r = 2 ^ k - s in
      let sum : s + r ≡ 2 ^ k = omega arith in
      let fits : 2 ^ level ≤ r = omega arith in
      let cut : leaves_under level index (take (2 ^ k) digests) ≡ leaves_under level index digests =
      ap (λ n. take (2 ^ level) (drop s (take n digests))) (sym sum) ∙ ap (take (2 ^ level)) (drop-take s r digests) ∙ take-take (2 ^ level) r (drop s digests) fits in
      let sizes : length (stored_below H (suc k) digests) ≡ length (x ++ y ++ top H k digests) = ap length (below_suc H k digests) in
      let both : length (x ++ y) ≡ length x + length y = length-append x y in
      let all : length (x ++ y ++ top H k digests) ≡ length (x ++ y) + length (top H k digests) = length-append (x ++ y) (top H k digests) in
      record {
        within = omega (arith, a.within, sizes, both, all);
        is = ap (λ xs. get_or xs p []) (below_suc H k digests) ∙ get_or_append_left (x ++ y) (top H k digests) [] p (omega (arith, a.within, both)) ∙ get_or_append_left x y [] p a.within
            ∙ a.is ∙ ap (tree_hash H) cut;
      }

  -- in the right half, which begins at the m-th subtree of the level
  at_right : (level m j : ℕ) → 2 ^ k ≡ m * 2 ^ level → (m + j + 1) * 2 ^ level ≤ length digests → At H k (drop (2 ^ k) digests) level j → At H (suc k) digests level (m + j)
  at_right level m j e b a =
      let x = stored_below H k (take (2 ^ k) digests) in
      let y = stored_below H k (drop (2 ^ k) digests) in
      let s = j * 2 ^ level in
      let start : (m + j) * 2 ^ level ≡ 2 ^ k + s = omega arith in
      let below : s < 2 ^ k = omega (arith, pow_pos level, twice k) in
      let o : count_ones ((m + j) * 2 ^ level) ≡ 1 + count_ones s = ap count_ones start ∙ ones_above k s below in
      let few : count_ones s ≤ s = ones_le_self s in
      let place : position level (m + j) ≡ length x + position level j = omega (arith, front_length, start, o, few, pow_pos level) in
      let cut : leaves_under level j (drop (2 ^ k) digests) ≡ leaves_under level (m + j) digests =
      ap (take (2 ^ level)) (drop-drop s (2 ^ k) digests) ∙ ap (λ n. take (2 ^ level) (drop n digests)) (sym start) in
      let sizes : length (stored_below H (suc k) digests) ≡ length (x ++ y ++ top H k digests) = ap length (below_suc H k digests) in
      let both : length (x ++ y) ≡ length x + length y = length-append x y in
      let all : length (x ++ y ++ top H k digests) ≡ length (x ++ y) + length (top H k digests) = length-append (x ++ y) (top H k digests) in
      record {
        within = omega (arith, a.within, sizes, both, all, place);
        is = ap (λ xs. get_or xs (position level (m + j)) []) (below_suc H k digests)
            ∙ ap (λ p. get_or (x ++ y ++ top H k digests) p []) place
            ∙ get_or_append_left (x ++ y) (top H k digests) [] (length x + position level j) (omega (arith, a.within, both))
            ∙ get_or-append-add x y (position level j) []
            ∙ a.is ∙ ap (tree_hash H) cut;
      }

  -- the whole
  at_top : length digests ≡ 2 ^ suc k → At H (suc k) digests (suc k) 0
  at_top full =
      let x = stored_below H k (take (2 ^ k) digests) in
      let y = stored_below H k (drop (2 ^ k) digests) in
      let lr : length (drop (2 ^ k) digests) ≡ 2 ^ k = omega (arith, length-drop (2 ^ k) digests, twice k) in
      let o : count_ones (length (drop (2 ^ k) digests)) ≡ 1 = ap count_ones lr ∙ ones_power k in
      let ly = counted H k (drop (2 ^ k) digests) (omega arith) in
      let both : length (x ++ y) ≡ length x + length y = length-append x y in
      let zeros : count_ones (0 * 2 ^ suc k) ≡ 0 = (let z : 0 * 2 ^ suc k ≡ 0 = omega arith in ap count_ones z ∙ ones_zero) in
      let place : length (x ++ y) ≡ position (suc k) 0 = omega (arith, front_length, ly, lr, o, both, zeros, twice k) in
      let one : length (x ++ y ++ subtree_hash H (suc k) digests ∷ []) ≡ length (x ++ y) + 1 = length-append (x ++ y) (subtree_hash H (suc k) digests ∷ []) in
      let sizes : length (stored_below H (suc k) digests) ≡ length (x ++ y ++ subtree_hash H (suc k) digests ∷ []) = ap length (below_full H k digests full) in
      let z : 0 * 2 ^ suc k ≡ 0 = omega arith in
      let cut : leaves_under (suc k) 0 digests ≡ digests = ap (λ n. take (2 ^ suc k) (drop n digests)) z ∙ take_all (2 ^ suc k) digests h in
      record {
        within = omega (arith, place, one, sizes);
        is = ap (λ xs. get_or xs (position (suc k) 0) []) (below_full H k digests full) ∙ get_or_at (x ++ y) (subtree_hash H (suc k) digests) [] [] (position (suc k) 0) place
            ∙ tree_at H (suc k) digests h ∙ ap (tree_hash H) (sym cut);
      }

first_at_zero : (H : List ℕ → List ℕ) (digest : List ℕ) → get_or (stored_below H zero (digest ∷ [])) 0 [] ≡ subtree_hash H zero (digest ∷ [])
unfolding stored_below subtree_hash
first_at_zero H digest = refl

one_at_zero : (H : List ℕ → List ℕ) (digest : List ℕ) → length (stored_below H zero (digest ∷ [])) ≡ 1
unfolding stored_below
one_at_zero H digest = refl

at_bottom : (H : List ℕ → List ℕ) (digests : List (List ℕ)) (level index : ℕ) → (index + 1) * 2 ^ level ≤ length digests → length digests ≤ 1 → At H zero digests level index
at_bottom H [] level index b h = absurd (omega (arith, pow_pos level))
at_bottom H (digest ∷ []) zero zero b h =
    let place : position 0 0 ≡ 0 = omega (arith, ones_zero) in
    record {
      within = omega (arith, place, one_at_zero H digest);
      is = ap (λ p. get_or (stored_below H zero (digest ∷ [])) p []) place ∙ first_at_zero H digest ∙ tree_at H zero (digest ∷ []) (omega arith);
    }
at_bottom H (digest ∷ []) zero (suc index) b h = absurd (omega arith)
at_bottom H (digest ∷ []) (suc level) index b h = absurd (omega (arith, twice level, pow_pos level))
at_bottom H (digest ∷ (other ∷ digests)) level index b h = absurd (omega arith)

at_high : (H : List ℕ → List ℕ) (k : ℕ) (digests : List (List ℕ)) (level index : ℕ) → 2 ^ k < length digests → length digests ≤ 2 ^ suc k → suc k ≤ level → (index + 1) * 2 ^ level ≤ length digests → At H (suc k) digests level index
at_high H k digests level zero high h up b =
    let p : 2 ^ suc k ≤ 2 ^ level = pow_mono up in
    elim (le_or_lt level (suc k)) [
      | inl le ↦ (
          let e : suc k ≡ level = omega arith in
          subst (λ l. At H (suc k) digests l 0) e (at_top H k digests high h (omega arith)))
      | inr lt ↦ (let q : 2 ^ suc k < 2 ^ level = pow-lt lt in absurd (omega arith))
    ]
at_high H k digests level (suc index) high h up b = let p : 2 ^ suc k ≤ 2 ^ level = pow_mono up in absurd (omega (arith, pow_pos (suc k)))

pub at_height : (H : List ℕ → List ℕ) (k : ℕ) (digests : List (List ℕ)) (level index : ℕ) → (index + 1) * 2 ^ level ≤ length digests → length digests ≤ 2 ^ k → At H k digests level index
at_height H zero digests level index b h = at_bottom H digests level index b h
at_height H (suc k) digests level index b h =
    elim (le_or_lt (length digests) (2 ^ k)) [
      | inl low ↦ (
          let a = at_height H k digests level index b low in
          let e = below_low H k digests low in
          record { within = omega (arith, a.within, ap length e); is = ap (λ xs. get_or xs (position level index) []) e ∙ a.is })
      | inr high ↦ elim (le_or_lt (suc k) level) [
        | inl up ↦ at_high H k digests level index high h up b
        | inr lo ↦ (
            let m = 2 ^ (k - level) in
            let sum : (k - level) + level ≡ k = omega arith in
            let e : 2 ^ k ≡ m * 2 ^ level = ap (λ n. 2 ^ n) (sym sum) ∙ pow-add 2 (k - level) level in
            elim (le_or_lt m index) [
              | inl r ↦ (
                  let j = index - m in
                  let is : m + j ≡ index = omega arith in
                  let b' : (m + j + 1) * 2 ^ level ≤ length digests = subst (λ i. (i + 1) * 2 ^ level ≤ length digests) (sym is) b in
                  let rest = length-drop (2 ^ k) digests in
                  let fits : (j + 1) * 2 ^ level ≤ length (drop (2 ^ k) digests) = omega (arith, rest, b', e) in
                  let small : length (drop (2 ^ k) digests) ≤ 2 ^ k = omega (arith, rest, twice k) in
                  subst (λ i. At H (suc k) digests level i) is (at_right H k digests high h level m j e b' (at_height H k (drop (2 ^ k) digests) level j fits small)))
              | inr l ↦ (
                  let front = length-take-le (2 ^ k) digests (omega arith) in
                  let room : (index + 1) * 2 ^ level ≤ 2 ^ k = (let q : index + 1 ≤ m = omega arith in omega (arith, mul-le-mul_left (2 ^ level) q, e)) in
                  let fits : (index + 1) * 2 ^ level ≤ length (take (2 ^ k) digests) = omega (arith, front, room) in
                  let small : length (take (2 ^ k) digests) ≤ 2 ^ k = omega (arith, front) in
                  at_left H k digests high h level index room (at_height H k (take (2 ^ k) digests) level index fits small))
            ])
      ]
    ]

pub stores_subtrees : (H : List ℕ → List ℕ) → StoresSubtrees H
stores_subtrees H = record {
  count = λ digests. omega (arith, counted H (length digests) digests (below_power (length digests)));
  at = λ digests level index b. (at_height H (length digests) digests level index b (below_power (length digests))).is;
  grows = λ digests more.
      let all = length (digests ++ more) in
      let fits : length (digests ++ more) ≤ 2 ^ all = below_power all in
      let some : length digests ≤ 2 ^ all = omega (arith, length-append digests more) in
      let g = grown H all digests more fits in
      (g.rest, g.is ∙ ap (λ xs. xs ++ g.rest) (stored_at_height H all (length digests) digests some (below_power (length digests))));
}
