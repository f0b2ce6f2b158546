-- Membership in a list of set positions.
use Rattle.std.proofs.Common.{◌≡◌, ℕ, zero, suc, ◌+◌, ◌-◌, ◌*◌, ◌<◌, ◌≤◌, min, max, Bool, true, false, cond, List, ◌∷◌, ◌++◌, length, get_or, refl, sym, ap, subst, ◌∙◌, arith}
use Rattle.std.specs.Prelude.{◌↔◌}
use Rattle.std.specs.List.{All, Contains, count_by, filter, range_with_len}
use Rattle.std.specs.List.Sorted.{IsStrictlyIncreasing}
use Rattle.std.proofs.lemmas.List.{get_or-append_right, length-append}
use Rattle.std.proofs.lemmas.List.Elements.{All-filter, filter_passes}
use Rattle.std.proofs.lemmas.List.FromFn.{length-range_with_len, get_or-range_with_len, fill_by_all}
use Rattle.std.proofs.lemmas.List.Kept.{IsStrictlyIncreasing-filter}
use Rattle.bitmap_core.specs.Meaning.{Meaning, IsRetained, ones, ones_between}
use Rattle.bitmap_bytes.proofs.Counting.Ones.{ones_from}
use Rattle.bitmap_bytes.proofs.Counting.Places.{count_map}
use Rattle.bitmap_core.proofs.Lists.SetPositions.{ones_between-append, ones_between-hit}

-- an item after the first is in the list
Contains-middle : (xs ys : List ℕ) (k : ℕ) → Contains (xs ++ k ∷ ys) k
Contains-middle xs ys k = (
  length xs,
  omega (arith, length-append xs (k ∷ ys)),
  get_or-append_right xs (k ∷ ys) (length xs) (length xs) k refl (omega arith)
      ∙ (let z : length xs - length xs ≡ 0 = omega arith in ap (λ i. get_or (k ∷ ys) i k) z),
)

All-at : (P : ℕ → Type 0) (xs : List ℕ) (k : ℕ) → All P xs → Contains xs k → P k
All-at P xs k h c = subst P c.2 (h c.0 k c.1)

range_within : (lo n : ℕ) → All (λ k. (lo ≤ k) × (k < lo + n)) (range_with_len lo n)
range_within lo n i d h =
    let l = length-range_with_len lo n in
    let e : get_or (range_with_len lo n) i d ≡ lo + i = get_or-range_with_len lo n i d (omega arith) in
    (omega arith, omega arith)

range_ascends : (lo n : ℕ) → IsStrictlyIncreasing (range_with_len lo n)
range_ascends lo n i h =
    let l = length-range_with_len lo n in
    let a : get_or (range_with_len lo n) i 0 ≡ lo + i = get_or-range_with_len lo n i 0 (omega arith) in
    let b : get_or (range_with_len lo n) (i + 1) 0 ≡ lo + (i + 1) = get_or-range_with_len lo n (i + 1) 0 (omega arith) in
    omega arith

module _ (bit : ℕ → Bool) (lo hi : ℕ) where
  pub ones_between-ascend : IsStrictlyIncreasing (ones_between bit lo hi)
  ones_between-ascend = IsStrictlyIncreasing-filter bit (range_with_len lo (hi - lo)) (range_ascends lo (hi - lo))

  -- a set position in the range is in the list
  has : (k : ℕ) → lo ≤ k → k < hi → bit k ≡ true → Contains (ones_between bit lo hi) k
  has k a b e =
      let split : ones_between bit lo hi ≡ ones_between bit lo k ++ ones_between bit k hi = ones_between-append bit lo k hi a (omega arith) in
      let hit : ones_between bit k hi ≡ k ∷ ones_between bit (k + 1) hi = ones_between-hit bit k hi b e in
      subst (λ xs. Contains xs k) (sym (split ∙ ap (λ ys. ones_between bit lo k ++ ys) hit))
      (Contains-middle (ones_between bit lo k) (ones_between bit (k + 1) hi) k)

  -- the list has no other positions
  found : (k : ℕ) → Contains (ones_between bit lo hi) k → (lo ≤ k) × (k < hi) × (bit k ≡ true)
  found k c =
      let InRange : ℕ → Type 0 = λ x. (lo ≤ x) × (x < lo + (hi - lo)) in
      let w = All-at InRange (ones_between bit lo hi) k (All-filter bit InRange (range_with_len lo (hi - lo)) (range_within lo (hi - lo))) c in
      (w.0, omega (arith, w.0, w.1), All-at (λ x. bit x ≡ true) (ones_between bit lo hi) k (filter_passes bit (range_with_len lo (hi - lo))) c)

  ones_between-exact : (k : ℕ) → Contains (ones_between bit lo hi) k ↔ ((lo ≤ k) × (k < hi) × (bit k ≡ true))
  ones_between-exact k = (found k, λ h. has k h.0 h.1 h.2)

pub ones-exact : (n : ℕ) (m : Meaning) (a b k : ℕ) → Contains (ones n m a b) k ↔ ((a ≤ k) × (k < b) × IsRetained n m k × (m.bit k ≡ true))
ones-exact n m a b k =
    let e = ones_between-exact m.bit (max a (8 * n * m.pruned)) (min b m.len) k in (
      λ c. let w = e.0 c in (omega (arith, w.0), omega (arith, w.1), (omega (arith, w.0), omega (arith, w.1)), w.2),
      λ h. e.1 (omega (arith, h.0, h.2.0), omega (arith, h.1, h.2.1), h.3),
    )

-- ---- a list of bits

cond_count : (b : Bool) (x : ℕ) (xs : List ℕ) (n : ℕ) → length xs ≡ n → length (cond b (x ∷ xs) xs) ≡ cond b 1 0 + n
cond_count true x xs n e = omega arith
cond_count false x xs n e = omega arith

run_count : (p : ℕ → Bool) (a n : ℕ) → length (filter p (range_with_len a n)) ≡ ones_from p a n
run_count p a zero = refl
run_count p a (suc n) = cond_count (p a) a (filter p (range_with_len (a + 1) n)) (ones_from p (a + 1) n) (run_count p (a + 1) n)

-- the set positions of a list, as an iterator over a bitmap yields them
module _ (v : List Bool) (positions : List ℕ) (is : positions ≡ filter (λ k. get_or v k false) (range_with_len 0 (length v))) where
  between : positions ≡ ones_between (λ k. get_or v k false) 0 (length v)
  between = let z : length v ≡ length v - 0 = omega arith in is ∙ ap (λ n. filter (λ k. get_or v k false) (range_with_len 0 n)) z

  pub positions-ascend : IsStrictlyIncreasing positions
  positions-ascend = subst IsStrictlyIncreasing (sym between) (ones_between-ascend (λ k. get_or v k false) 0 (length v))

  pub positions-exact : (k : ℕ) → Contains positions k ↔ ((k < length v) × (get_or v k false ≡ true))
  positions-exact k =
      let e = ones_between-exact (λ i. get_or v i false) 0 (length v) k in (
        λ c. let w = e.0 (subst (λ xs. Contains xs k) between c) in (w.1, w.2),
        λ h. subst (λ xs. Contains xs k) (sym between) (e.1 (omega arith, h.0, h.1)),
      )

  -- there are as many as set bits
  pub positions-count : length positions ≡ count_by (λ b. b) v
  positions-count =
      ap length is
      ∙ run_count (λ k. get_or v k false) 0 (length v)
      ∙ sym (count_map (λ k. get_or v k false) 0 (length v))
      ∙ sym (ap (count_by (λ b. b)) (fill_by_all (λ k. get_or v k false) v (length v) false refl (λ k h. refl)))
