-- Members of lists of numbers, and keys of entries.
use Rattle.std.proofs.Common.{◌≡◌, ℕ, zero, suc, ◌+◌, ◌-◌, ◌<◌, ◌≤◌, List, [], ◌∷◌, ◌++◌, refl, ap, arith, sym, ◌∙◌}
use mathlib.Core.Logic.{inl, inr, ◌⊎◌}
use Rattle.std.proofs.lemmas.List.Folds.{list_any-append}
use Rattle.std.proofs.lemmas.Bool.{cases_eq, eq-eqb, eqb-true, eqb-false, or_cases, or_left, or_right, or_parts}
use Rattle.std.specs.Prelude.{true, false, map, nat_eq, None}
use Rattle.std.specs.List.{range_with_len}
use Rattle.std.specs.Map.{lookup, keys_of}
use Rattle.std.specs.Set.{is_member}
use Rattle.historical_bitmap.specs.Edits.{from_to}

-- ---- a range
pub member_range : (k lo m : ℕ) → is_member nat_eq (range_with_len lo m) k ≡ true → (lo ≤ k) × (k < lo + m)
member_range k lo zero h = absurd (cc)
member_range k lo (suc m) h = elim (or_cases (nat_eq k lo) (is_member nat_eq (range_with_len (lo + 1) m) k) h) [
  | inl e ↦ let f = eqb-true k lo e in (omega arith, omega arith)
  | inr r ↦ let s = member_range k (lo + 1) m r in (omega (arith, s.0), omega (arith, s.1))
]

pub range_member : (k lo m : ℕ) → lo ≤ k → k < lo + m → is_member nat_eq (range_with_len lo m) k ≡ true
range_member k lo zero l h = absurd (omega arith)
range_member k lo (suc m) l h = elim (cases_eq k lo) [
  | inl e ↦ here k lo m e
  | inr ne ↦ or_right (nat_eq k lo) (is_member nat_eq (range_with_len (lo + 1) m) k) (range_member k (lo + 1) m (omega arith) (omega arith))
]
  where
    here : (k lo m : ℕ) → k ≡ lo → is_member nat_eq (range_with_len lo (suc m)) k ≡ true
    here k lo m e = rw (eq-eqb k lo e) refl

-- a number that is not in a range and not below it is past it
pub past_range : (i a m : ℕ) → is_member nat_eq (range_with_len a m) i ≡ false → a ≤ i → a + m ≤ i
past_range i a zero h l = omega arith
past_range i a (suc m) h l =
    let o = or_parts (nat_eq i a) (is_member nat_eq (range_with_len (a + 1) m) i) h in
    omega (arith, eqb-false i a o.0, past_range i (a + 1) m o.1)

pub from_to_member : (lo hi k : ℕ) → lo ≤ k → k < hi → is_member nat_eq (from_to lo hi) k ≡ true
from_to_member lo hi k l h = range_member k lo (hi - lo) l (omega arith)

pub member_from_to : (lo hi k : ℕ) → is_member nat_eq (from_to lo hi) k ≡ true → (lo ≤ k) × (k < hi)
member_from_to lo hi k h = let s = member_range k lo (hi - lo) h in (s.0, omega (arith, s.0, s.1))

pub past_to : (lo hi k : ℕ) → is_member nat_eq (from_to lo hi) k ≡ false → lo ≤ k → hi ≤ k
past_to lo hi k h l = omega (arith, past_range k lo (hi - lo) h l)

-- ---- two lists joined
pub in_left : (xs ys : List ℕ) (k : ℕ) → is_member nat_eq xs k ≡ true → is_member nat_eq (xs ++ ys) k ≡ true
in_left xs ys k h = list_any-append (nat_eq k) xs ys ∙ or_left (is_member nat_eq xs k) (is_member nat_eq ys k) h

pub in_right : (xs ys : List ℕ) (k : ℕ) → is_member nat_eq ys k ≡ true → is_member nat_eq (xs ++ ys) k ≡ true
in_right xs ys k h = list_any-append (nat_eq k) xs ys ∙ or_right (is_member nat_eq xs k) (is_member nat_eq ys k) h

pub in_either : (xs ys : List ℕ) (k : ℕ) → is_member nat_eq (xs ++ ys) k ≡ true → (is_member nat_eq xs k ≡ true) ⊎ (is_member nat_eq ys k ≡ true)
in_either xs ys k h = or_cases (is_member nat_eq xs k) (is_member nat_eq ys k) (sym (list_any-append (nat_eq k) xs ys) ∙ h)

pub in_neither : (xs ys : List ℕ) (k : ℕ) → is_member nat_eq (xs ++ ys) k ≡ false → (is_member nat_eq xs k ≡ false) × (is_member nat_eq ys k ≡ false)
in_neither xs ys k h = or_parts (is_member nat_eq xs k) (is_member nat_eq ys k) (sym (list_any-append (nat_eq k) xs ys) ∙ h)

-- ---- a function mapped over a list
pub member_map : (f : ℕ → ℕ) (xs : List ℕ) (k : ℕ) → is_member nat_eq xs k ≡ true → is_member nat_eq (map f xs) (f k) ≡ true
member_map f [] k h = h
member_map f (x ∷ xs) k h = elim (or_cases (nat_eq k x) (is_member nat_eq xs k) h) [
  | inl e ↦ or_left (nat_eq (f k) (f x)) (is_member nat_eq (map f xs) (f k)) (eq-eqb (f k) (f x) (ap f (eqb-true k x e)))
  | inr r ↦ or_right (nat_eq (f k) (f x)) (is_member nat_eq (map f xs) (f k)) (member_map f xs k r)
]

pub map_member : (f : ℕ → ℕ) (xs : List ℕ) (q : ℕ) → is_member nat_eq (map f xs) q ≡ true → (k : ℕ) × (is_member nat_eq xs k ≡ true) × (q ≡ f k)
map_member f [] q h = absurd (cc)
map_member f (x ∷ xs) q h = elim (or_cases (nat_eq q (f x)) (is_member nat_eq (map f xs) q) h) [
  | inl e ↦ (x, or_left (nat_eq x x) (is_member nat_eq xs x) (eq-eqb x x refl), eqb-true q (f x) e)
  | inr r ↦ let s = map_member f xs q r in (s.0, or_right (nat_eq s.0 x) (is_member nat_eq xs s.0) s.1, s.2)
]

-- ---- keys
-- a number that is not a key is not found
pub not_key : {X : Type 0} (k : ℕ) (ms : List (ℕ × X)) → is_member nat_eq (keys_of ms) k ≡ false → lookup (nat_eq k) ms ≡ None
not_key k [] h = refl
not_key k (m ∷ ms) h = let o = or_parts (nat_eq k m.0) (is_member nat_eq (keys_of ms) k) h in rw o.0 (not_key k ms o.1)
