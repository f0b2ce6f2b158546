-- The list of positions of a range, and the bits at them.
use Rattle.std.proofs.Common.{◌≡◌, ℕ, zero, suc, ◌+◌, ◌-◌, ◌*◌, ◌<◌, ◌≤◌, min, max, Bool, true, false, not, cond, List, [], ◌∷◌, length, Option, Some, None, MatchOption, ◌⊎◌, inl, inr, refl, subst, sym, ap, ◌∙◌, arith}
use Rattle.std.specs.List.{count_by, filter, range_with_len, slice_get}
use Rattle.std.proofs.lemmas.Bool.{cases_lt}
use Rattle.std.proofs.lemmas.List.Sums.{length-filter}
use Rattle.std.proofs.lemmas.Option.{cond_some, none-some, slice_get_cases}
use Rattle.bitmap_bytes.specs.Chunk.{is_wanted, IsNth}
use Rattle.bitmap_bytes.proofs.Counting.Ones.{ones_from, ones_from_add}
use Rattle.bitmap_bytes.proofs.Counting.Parts.{count_range}
use Rattle.bitmap_core.specs.Meaning.{Meaning, IsRetained, ones, ones_between, seen_as}
use Rattle.bitmap_core.specs.Searches.{first, last, HasNoNext, HasNoPrevious, IsNext, IsPrevious}
use Rattle.bitmap_core.proofs.Searches.{length-ones, get_nth}

-- ---- items of the list

-- an item after the first
nth_after : (bit : ℕ → Bool) (lo n k p count : ℕ) → IsNth bit (lo + 1) (lo + 1 + n) k p → cond (bit lo) 1 0 ≡ count → IsNth bit lo (lo + suc n) (count + k) p
nth_after bit lo n k p count nth e =
    let above = nth.above in
    let below = nth.below in
    let d : p - lo ≡ suc (p - (lo + 1)) = omega arith in
    record {
      above = omega arith;
      below = omega arith;
      passes = nth.passes;
      rank =
          count_range bit lo (p - lo)
          ∙ ap (ones_from bit lo) d
          ∙ ap (λ x. x + ones_from bit (lo + 1) (p - (lo + 1))) e
          ∙ ap (λ x. count + x) (sym (count_range bit (lo + 1) (p - (lo + 1))) ∙ nth.rank);
    }

nth_step : (bit : ℕ → Bool) (lo n : ℕ) (rest : List ℕ) → ((j q : ℕ) → slice_get rest j ≡ Some q → IsNth bit (lo + 1) (lo + 1 + n) j q)
    → (b : Bool) → bit lo ≡ b → (k p : ℕ) → slice_get (cond b (lo ∷ rest) rest) k ≡ Some p
    → IsNth bit lo (lo + suc n) k p
nth_step bit lo n rest ih true h zero p e =
    let d : lo ≡ p = (cond_some true lo p e).1 in
    let z : p - lo ≡ 0 = omega arith in
    record {
      above = omega arith;
      below = omega arith;
      passes = ap bit (sym d) ∙ h;
      rank = ap (λ x. count_by bit (range_with_len lo x)) z;
    }
nth_step bit lo n rest ih true h (suc j) p e =
    let z : 1 + j ≡ suc j = omega arith in
    subst (λ (x : ℕ). IsNth bit lo (lo + suc n) x p) z (nth_after bit lo n j p 1 (ih j p e) (ap (λ b. cond b 1 0) h))
nth_step bit lo n rest ih false h k p e =
    let z : 0 + k ≡ k = omega arith in
    subst (λ (x : ℕ). IsNth bit lo (lo + suc n) x p) z (nth_after bit lo n k p 0 (ih k p e) (ap (λ b. cond b 1 0) h))

nth_of_run : (bit : ℕ → Bool) (lo n k p : ℕ) → slice_get (filter bit (range_with_len lo n)) k ≡ Some p → IsNth bit lo (lo + n) k p
nth_of_run bit lo zero k p e = absurd (none-some p e)
nth_of_run bit lo (suc n) k p e =
    nth_step bit lo n (filter bit (range_with_len (lo + 1) n)) (λ j q f. nth_of_run bit (lo + 1) n j q f) (bit lo) refl k p e

-- item k is the position with k others before it
pub nth_of_get : (bit : ℕ → Bool) (lo hi k p : ℕ) → slice_get (ones_between bit lo hi) k ≡ Some p → IsNth bit lo hi k p
nth_of_get bit lo hi k p e =
    let r = nth_of_run bit lo (hi - lo) k p e in
    let above = r.above in
    let below = r.below in
    record { above = r.above; below = omega arith; passes = r.passes; rank = r.rank }

clear_step : (b : Bool) (rest : ℕ) → cond b 1 0 + rest ≡ 0 → (b ≡ false) × (rest ≡ 0)
clear_step true rest e = absurd (omega arith)
clear_step false rest e = (refl, omega arith)

-- if no position counts, the list is empty
clear_of_none : (f : ℕ → Bool) (a k : ℕ) → ones_from f a k ≡ 0 → (i : ℕ) → a ≤ i → i < a + k → f i ≡ false
clear_of_none f a zero e i h s = absurd (omega arith)
clear_of_none f a (suc k) e i h s =
    let c = clear_step (f a) (ones_from f (a + 1) k) e in
    elim (cases_lt a i) [
      | inl lt ↦ clear_of_none f (a + 1) k c.1 i (omega arith) (omega arith)
      | inr ge ↦ (let d : i ≡ a = omega arith in ap f d ∙ c.0)
    ]

-- no position before the first item counts
pub none_before : (bit : ℕ → Bool) (lo hi p : ℕ) → IsNth bit lo hi 0 p → (k : ℕ) → lo ≤ k → k < p → bit k ≡ false
none_before bit lo hi p nth k h s = clear_of_none bit lo (p - lo) (sym (count_range bit lo (p - lo)) ∙ nth.rank) k h (omega arith)

-- no position after the last item counts
pub none_after : (bit : ℕ → Bool) (lo hi p : ℕ) → IsNth bit lo hi (length (ones_between bit lo hi) - 1) p → (k : ℕ) → p < k → k < hi → bit k ≡ false
none_after bit lo hi p nth k h s =
    let above = nth.above in
    let below = nth.below in
    let d : hi - lo ≡ (p - lo) + suc (hi - (p + 1)) = omega arith in
    let a : lo + (p - lo) ≡ p = omega arith in
    let all = length-ones bit lo hi ∙ ap (ones_from bit lo) d ∙ ones_from_add bit lo (p - lo) (suc (hi - (p + 1))) in
    let one : ones_from bit (lo + (p - lo)) (suc (hi - (p + 1))) ≡ 1 + ones_from bit (p + 1) (hi - (p + 1)) =
    ap (λ x. ones_from bit x (suc (hi - (p + 1)))) a ∙ ap (λ b. cond b 1 0 + ones_from bit (p + 1) (hi - (p + 1))) nth.passes in
    let rank = sym (count_range bit lo (p - lo)) ∙ nth.rank in
    clear_of_none bit (p + 1) (hi - (p + 1)) (omega arith) k (omega arith) (omega arith)

-- if there is no item k, the list has at most k items
pub none_of_get : (bit : ℕ → Bool) (lo hi k : ℕ) → slice_get (ones_between bit lo hi) k ≡ None → length (ones_between bit lo hi) ≤ k
none_of_get bit lo hi k e = elim (slice_get_cases (ones_between bit lo hi) k).1 [
  | inl x ↦ absurd (none-some x.0 (sym e ∙ x.2))
  | inr x ↦ x.0
]

pub none_at_all : (bit : ℕ → Bool) (lo hi : ℕ) → length (ones_between bit lo hi) ≡ 0 → (k : ℕ) → lo ≤ k → k < hi → bit k ≡ false
none_at_all bit lo hi e k h s = clear_of_none bit lo (hi - lo) (sym (length-ones bit lo hi) ∙ e) k h (omega arith)

-- ---- next and previous positions

wanted_is : (wanted bit : Bool) → is_wanted wanted bit ≡ true → bit ≡ wanted
wanted_is true true e = refl
wanted_is true false e = e
wanted_is false true e = sym e
wanted_is false false e = refl

wanted_not : (wanted bit : Bool) → is_wanted wanted bit ≡ false → bit ≡ not wanted
wanted_not true true e = e
wanted_not true false e = refl
wanted_not false true e = refl
wanted_not false false e = sym e

pub next_meant : (n : ℕ) (m : Meaning) (wanted : Bool) (from : ℕ) (r : Option ℕ) → r ≡ first (ones n (seen_as wanted m) from m.len)
    → MatchOption r (HasNoNext n m wanted from) (IsNext n m wanted from)
next_meant n m wanted from None e = λ k r h.
    let l = none_of_get (seen_as wanted m).bit (max from (8 * n * m.pruned)) (min m.len m.len) 0 (sym e) in
    wanted_not wanted (m.bit k) (none_at_all (seen_as wanted m).bit (max from (8 * n * m.pruned)) (min m.len m.len) (omega arith) k (omega (arith, r.0)) (omega (arith, r.1)))
next_meant n m wanted from (Some p) e =
    let nth = nth_of_get (seen_as wanted m).bit (max from (8 * n * m.pruned)) (min m.len m.len) 0 p (sym e) in
    record {
      retained = (omega (arith, nth.above), omega (arith, nth.below));
      above = omega (arith, nth.above);
      bit = wanted_is wanted (m.bit p) nth.passes;
      least = λ k r h s. wanted_not wanted (m.bit k) (none_before (seen_as wanted m).bit (max from (8 * n * m.pruned)) (min m.len m.len) p nth k (omega (arith, r.0)) s);
    }

pub previous_meant : (n : ℕ) (m : Meaning) (wanted : Bool) (end : ℕ) (r : Option ℕ) → r ≡ last (ones n (seen_as wanted m) 0 end)
    → MatchOption r (HasNoPrevious n m wanted end) (IsPrevious n m wanted end)
previous_meant n m wanted end None e = λ k r h.
    let lo : ℕ = max 0 (8 * n * m.pruned) in
    let hi : ℕ = min end m.len in
    let l = none_of_get (seen_as wanted m).bit lo hi (length (ones_between (seen_as wanted m).bit lo hi) - 1) (sym e) in
    wanted_not wanted (m.bit k) (none_at_all (seen_as wanted m).bit lo hi (omega arith) k (omega (arith, r.0)) (omega (arith, r.1)))
previous_meant n m wanted end (Some p) e =
    let lo : ℕ = max 0 (8 * n * m.pruned) in
    let hi : ℕ = min end m.len in
    let nth = nth_of_get (seen_as wanted m).bit lo hi (length (ones_between (seen_as wanted m).bit lo hi) - 1) p (sym e) in
    record {
      retained = (omega (arith, nth.above), omega (arith, nth.below));
      below = omega (arith, nth.below);
      bit = wanted_is wanted (m.bit p) nth.passes;
      greatest = λ k r h s. wanted_not wanted (m.bit k) (none_after (seen_as wanted m).bit lo hi p nth k s (omega (arith, r.1)));
    }

-- ---- the first item of an iterator

pub first_item : (items rest : List ℕ) (r : Option ℕ) → MatchOption r ((items ≡ []) × (rest ≡ [])) (λ x. items ≡ x ∷ rest) → r ≡ first items
first_item items rest None e = ap first (sym e.0)
first_item items rest (Some x) e = ap first (sym e)

-- ---- positions by the number of positions below them

-- a position found by its number
pub selected : (n : ℕ) (m : Meaning) (k p below : ℕ) → Some p ≡ slice_get (ones n m 0 m.len) k → below ≡ length (ones n m 0 p)
    → IsRetained n m p × (m.bit p ≡ true) × (below ≡ k)
selected n m k p below e b =
    let nth = nth_of_get m.bit (max 0 (8 * n * m.pruned)) (min m.len m.len) k p (sym e) in
    let d : min p m.len ≡ p = omega (arith, nth.below) in (
      (omega (arith, nth.above), omega (arith, nth.below)),
      nth.passes,
      b
          ∙ ap (λ x. length (ones_between m.bit (max 0 (8 * n * m.pruned)) x)) d
          ∙ length-filter m.bit (range_with_len (max 0 (8 * n * m.pruned)) (p - max 0 (8 * n * m.pruned)))
          ∙ nth.rank,
    )

pub not_selected : (n : ℕ) (m : Meaning) (k : ℕ) → None ≡ slice_get (ones n m 0 m.len) k → length (ones n m 0 m.len) ≤ k
not_selected n m k e = none_of_get m.bit (max 0 (8 * n * m.pruned)) (min m.len m.len) k (sym e)

-- a set position is found by the number of set positions below it
pub selected_again : (n : ℕ) (m : Meaning) (p below : ℕ) → IsRetained n m p → m.bit p ≡ true → below ≡ length (ones n m 0 p)
    → slice_get (ones n m 0 m.len) below ≡ Some p
selected_again n m p below r e b =
    let low : ℕ = max 0 (8 * n * m.pruned) in
    let d : min p m.len ≡ p = omega (arith, r.1) in
    get_nth m.bit low (min m.len m.len) below p (record {
      above = omega (arith, r.0);
      below = omega (arith, r.1);
      passes = e;
      rank = sym (b ∙ ap (λ x. length (ones_between m.bit low x)) d ∙ length-filter m.bit (range_with_len low (p - low)));
    })

-- ---- a range in two parts

-- two lower ends that differ only if the range is empty
same_part : (f : ℕ → Bool) (lo c hi : ℕ) → (lo ≡ c) ⊎ ((hi ≤ lo) × (hi ≤ c)) → ones_from f lo (hi - lo) ≡ ones_from f c (hi - c)
same_part f lo c hi (inl e) = ap (λ x. ones_from f x (hi - x)) e
same_part f lo c hi (inr e) =
    let l : hi - lo ≡ 0 = omega (arith, e.0) in
    let r : hi - c ≡ 0 = omega (arith, e.1) in
    ap (ones_from f lo) l ∙ sym (ap (ones_from f c) r)

-- a range in two parts, the second of which may be empty
split_part : (f : ℕ → Bool) (a c b : ℕ) → a ≤ c → (c ≤ b) ⊎ ((b ≤ a) × (c ≡ a)) → ones_from f a (b - a) ≡ ones_from f a (c - a) + ones_from f c (b - c)
split_part f a c b h (inl s) =
    let d : b - a ≡ (c - a) + (b - c) = omega arith in
    let e : a + (c - a) ≡ c = omega arith in
    ap (ones_from f a) d ∙ ones_from_add f a (c - a) (b - c) ∙ ap (λ x. ones_from f a (c - a) + ones_from f x (b - c)) e
split_part f a c b h (inr s) =
    let d : b - a ≡ 0 = omega (arith, s.0) in
    let e : c - a ≡ 0 = omega (arith, s.1) in
    let g : b - c ≡ 0 = omega (arith, s.0, s.1) in
    omega (arith, ap (ones_from f a) d, ap (ones_from f a) e, ap (ones_from f c) g)

parts_right : (from middle to low len : ℕ) → from ≤ middle → middle ≤ to
    → (max middle low ≡ max (max from low) (min middle (min to len))) ⊎ ((min to len ≤ max middle low) × (min to len ≤ max (max from low) (min middle (min to len))))
parts_right from middle to low len h s = elim (cases_lt (max middle low) (min to len)) [
  | inl lt ↦ inl (omega arith)
  | inr ge ↦ elim (cases_lt (max (max from low) (min middle (min to len))) (min to len)) [
    | inl lt ↦ inl (omega arith)
    | inr le ↦ inr (ge, le)
  ]
]

parts_in : (from middle to low len : ℕ) → (max (max from low) (min middle (min to len)) ≤ min to len)
    ⊎ ((min to len ≤ max from low) × (max (max from low) (min middle (min to len)) ≡ max from low))
parts_in from middle to low len = elim (cases_lt (min to len) (max from low)) [
  | inl lt ↦ inr (omega arith, omega arith)
  | inr ge ↦ inl (omega arith)
]

pub split_count : (n : ℕ) (m : Meaning) (from middle to : ℕ) → from ≤ middle → middle ≤ to
    → length (ones n m from to) ≡ length (ones n m from middle) + length (ones n m middle to)
split_count n m from middle to h s =
    let low : ℕ = 8 * n * m.pruned in
    let a : ℕ = max from low in
    let b : ℕ = min to m.len in
    let c : ℕ = max a (min middle b) in
    let left : ones_from m.bit (max from low) (min middle m.len - max from low) ≡ ones_from m.bit a (c - a) =
    (let d : min middle m.len - max from low ≡ c - a = omega arith in ap (ones_from m.bit a) d) in
    let right : ones_from m.bit (max middle low) (min to m.len - max middle low) ≡ ones_from m.bit c (b - c) = same_part m.bit (max middle low) c b (parts_right from middle to low m.len h s) in
    let all : ones_from m.bit a (b - a) ≡ ones_from m.bit a (c - a) + ones_from m.bit c (b - c) = split_part m.bit a c b (omega arith) (parts_in from middle to low m.len) in
    omega (arith, length-ones m.bit a b, length-ones m.bit (max from low) (min middle m.len), length-ones m.bit (max middle low) (min to m.len))
