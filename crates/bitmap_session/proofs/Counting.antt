-- The size of a set of numbers, given as a list.
use Rattle.std.proofs.Common.{◌≡◌, ℕ, ◌≤◌, List, [], ◌∷◌, refl, ap, sym, ◌∙◌, inl, inr}
use Rattle.std.proofs.lemmas.Bool.{cases_eq, cases_Bool, eq-eqb, ne_eqb, or_parts}
use Rattle.std.proofs.lemmas.Cmp.{nat_eq_equiv}
use Rattle.std.proofs.lemmas.Map.Keys.{IsDistinct-cons}
use Rattle.std.proofs.lemmas.Map.Made.{length-le_from_is_member}
use Rattle.std.specs.List.{IsDistinct, AllByRecursion}
use Rattle.std.specs.Prelude.{true, false, nat_eq, ◌||◌}
use Rattle.std.specs.Set.{is_member, unique_keys, distinct_count}
use Rattle.historical_bitmap.specs.Edits.{IsWithin}

-- adding a number that is already in the list changes no membership
again : (xs : List ℕ) (x q : ℕ) → is_member nat_eq xs x ≡ true → is_member nat_eq (x ∷ xs) q ≡ is_member nat_eq xs q
again xs x q h = elim (cases_eq q x) [
  | inl e ↦ rw (eq-eqb q x e, e) (sym h)
  | inr ne ↦ rw (ne_eqb q x ne) refl
]

member_unique : (xs : List ℕ) (q : ℕ) → is_member nat_eq (unique_keys nat_eq xs) q ≡ is_member nat_eq xs q
member_unique [] q = refl
member_unique (x ∷ xs) q = elim (cases_Bool (is_member nat_eq xs x)) [
  | inl e ↦ rw e (member_unique xs q ∙ sym (again xs x q e))
  | inr e ↦ rw e (ap (λ t. nat_eq q x || t) (member_unique xs q))
]

other_than : (xs : List ℕ) (x : ℕ) → is_member nat_eq xs x ≡ false → AllByRecursion (λ y. nat_eq x y ≡ false) xs
other_than [] x h = tt
other_than (y ∷ ys) x h = let o = or_parts (nat_eq x y) (is_member nat_eq ys x) h in (o.0, other_than ys x o.1)

none_distinct : IsDistinct nat_eq []
unfolding IsDistinct
none_distinct = tt

unique_distinct : (xs : List ℕ) → IsDistinct nat_eq (unique_keys nat_eq xs)
unique_distinct [] = none_distinct
unique_distinct (x ∷ xs) = elim (cases_Bool (is_member nat_eq xs x)) [
  | inl e ↦ rw e (unique_distinct xs)
  | inr e ↦
      let others = other_than (unique_keys nat_eq xs) x (member_unique xs x ∙ e) in
      rw e (IsDistinct-cons nat_eq x (unique_keys nat_eq xs) others (unique_distinct xs))
]

-- a subset has at most as many distinct numbers
pub count_within : (marks touched : List ℕ) → IsWithin marks touched → distinct_count nat_eq marks ≤ distinct_count nat_eq touched
count_within marks touched within =
    length-le_from_is_member nat_eq_equiv (unique_keys nat_eq marks) (unique_keys nat_eq touched)
    (unique_distinct marks)
    (λ q m. member_unique touched q ∙ within q (sym (member_unique marks q) ∙ m))
