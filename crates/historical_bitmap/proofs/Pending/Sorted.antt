-- The indices of a map's chunks between two bounds.
use Rattle.std.proofs.Common.{◌≡◌, ℕ, ◌+◌, ◌-◌, ◌<◌, ◌≤◌, Bool, true, false, List, [], ◌∷◌, length, get_or, take, ◌++◌, refl, ap, arith, sym, ◌∙◌, subst}
use mathlib.Core.Logic.{inl, inr, ◌⊎◌}
use Rattle.std.proofs.lemmas.Bool.{cases_Bool, cases_lt, eqb-true, le-ltb, lt-ltb}
use Rattle.std.proofs.lemmas.Cmp.{nat_cmp_total, nat_eq_equiv}
use Rattle.std.proofs.lemmas.List.Elements.{filter_more}
use Rattle.std.proofs.lemmas.List.Kept.{IsStrictlySortedBy-filter}
use Rattle.std.proofs.lemmas.Map.Keys.{sorted_from_all_adjacent}
use Rattle.std.proofs.lemmas.Map.Made.{is_member-filter}
use Rattle.std.specs.List.Sorted.{IsStrictlySortedBy}
use Rattle.std.specs.Ordering.{nat_cmp}
use Rattle.std.specs.Prelude.{◌&&◌, nat_eq}
use Rattle.std.specs.Set.{is_member}
use Rattle.historical_bitmap.specs.Edits.{from_to}
use Rattle.bitmap_core.specs.Ranges.{is_between}
use Rattle.historical_bitmap.specs.Pending.{members_between, picked_between}
use Rattle.historical_bitmap.proofs.Changes.Patched.{run_sorted}
use Rattle.chunk_map.proofs.Ordered.{ascending_same}
use Rattle.historical_bitmap.proofs.Lists.Members.{from_to_member, member_from_to}

-- ---- the indices of a map between two bounds
between_test : (from to q : ℕ) → is_member nat_eq (from_to from to) q ≡ is_between from to q
between_test from to q = elim (cases_lt q from) [
  | inl l ↦ rw (lt-ltb q from l) (elim (cases_Bool (is_member nat_eq (from_to from to) q)) [
    | inl e ↦ let m = member_from_to from to q e in absurd (omega (arith, m.0, l))
    | inr e ↦ e
  ])
  | inr low ↦ elim (cases_lt q to) [
    | inl high ↦ rw (le-ltb q from low, lt-ltb q to high) (from_to_member from to q low high)
    | inr past ↦ rw (le-ltb q from low, le-ltb q to past) (elim (cases_Bool (is_member nat_eq (from_to from to) q)) [
      | inl e ↦ let m = member_from_to from to q e in absurd (omega (arith, m.1, past))
      | inr e ↦ e
    ])
  ]
]

and_flips : (x y : Bool) → (x && y) ≡ (y && x)
and_flips true true = refl
and_flips true false = refl
and_flips false true = refl
and_flips false false = refl

-- the numbers of a list between two bounds are its members between them
same_members : (indices keys : List ℕ) (from to : ℕ) → ((q : ℕ) → is_member nat_eq indices q ≡ is_member nat_eq keys q)
    → (q : ℕ) → is_member nat_eq (picked_between indices from to) q ≡ is_member nat_eq (members_between keys from to) q
same_members indices keys from to members q =
    is_member-filter nat_eq_equiv (is_between from to) q (λ x e. ap (is_between from to) (eqb-true q x e)) indices
    ∙ ap (λ t. t && is_between from to q) (members q)
    ∙ and_flips (is_member nat_eq keys q) (is_between from to q)
    ∙ ap (λ t. t && is_member nat_eq keys q) (sym (between_test from to q))
    ∙ sym (is_member-filter nat_eq_equiv (is_member nat_eq keys) q (λ x e. ap (is_member nat_eq keys) (eqb-true q x e)) (from_to from to))

-- ---- the indices of a map, if they ascend
pub ascending_at : (xs : List ℕ) → ((k : ℕ) → k + 1 < length xs → get_or xs k 0 < get_or xs (k + 1) 0) → IsStrictlySortedBy nat_cmp xs
ascending_at xs rises = sorted_from_all_adjacent nat_cmp_total xs 0 (λ k within. rw (lt-ltb (get_or xs k 0) (get_or xs (k + 1) 0) (rises k within)) refl)

-- the numbers before a place rise, and so do the last of them and the one at the place
pub rises_more : (xs : List ℕ) (at : ℕ) → 0 < at → ((k : ℕ) → k + 1 < at → get_or xs k 0 < get_or xs (k + 1) 0) → get_or xs (at - 1) 0 < get_or xs at 0
    → (k : ℕ) → k + 1 < at + 1 → get_or xs k 0 < get_or xs (k + 1) 0
rises_more xs at some rises last k within = elim (cases_lt (k + 1) at) [
  | inl before ↦ rises k before
  | inr here ↦
      let is : at ≡ k + 1 = omega (arith, within, here) in
      let was : at - 1 ≡ k = omega (arith, is) in
      subst (λ j. get_or xs k 0 < get_or xs j 0) is (subst (λ j. get_or xs j 0 < get_or xs at 0) was last)
]

-- if the indices ascend, those between two bounds are the members between them
pub picked_are : (indices keys : List ℕ) (from to : ℕ) → IsStrictlySortedBy nat_cmp indices
    → ((q : ℕ) → is_member nat_eq indices q ≡ is_member nat_eq keys q)
    → picked_between indices from to ≡ members_between keys from to
picked_are indices keys from to ascending members =
    ascending_same (picked_between indices from to) (members_between keys from to)
    (IsStrictlySortedBy-filter nat_cmp (is_between from to) indices ascending)
    (IsStrictlySortedBy-filter nat_cmp (is_member nat_eq keys) (from_to from to) (run_sorted from (to - from)))
    (same_members indices keys from to members)

-- ascending numbers between two bounds are their members between them
pub picked_members : (keys : List ℕ) (from to : ℕ) → IsStrictlySortedBy nat_cmp keys → picked_between keys from to ≡ members_between keys from to
picked_members keys from to ascending = picked_are keys keys from to ascending (λ q. refl)

-- one number, between two bounds or not
pub picked_one : (from to x : ℕ) → from ≤ x → x < to → picked_between (x ∷ []) from to ≡ x ∷ []
picked_one from to x low high = rw (le-ltb x from low, lt-ltb x to high) refl

pub picked_none : (from to x : ℕ) → (x < from) ⊎ (to ≤ x) → picked_between (x ∷ []) from to ≡ []
picked_none from to x (inl below) = rw (lt-ltb x from below) refl
picked_none from to x (inr past) = elim (cases_lt x from) [
  | inl below ↦ rw (lt-ltb x from below) refl
  | inr low ↦ rw (le-ltb x from low, le-ltb x to past) refl
]

-- one number more
pub picked_more : (xs : List ℕ) (from to at x : ℕ) → at < length xs → x ≡ get_or xs at 0
    → picked_between (take (at + 1) xs) from to ≡ picked_between (take at xs) from to ++ picked_between (x ∷ []) from to
picked_more xs from to at x within is = rw is (filter_more (is_between from to) xs at 0 within)
