-- Counts and searches over the chunks of a bitmap, and over the list of its positions.
use Rattle.std.proofs.Common.{◌≡◌, ℕ, ◌+◌, ◌-◌, ◌*◌, ◌/◌, ◌%◌, ◌<◌, ◌≤◌, min, Bool, true, false, List, [], ◌∷◌, ◌++◌, length, Some, None, inl, inr, refl, sym, ap, ◌∙◌, arith}
use Rattle.std.specs.List.{count_by, range_with_len, slice_get}
use Rattle.std.proofs.lemmas.Bool.{cases_lt}
use Rattle.std.proofs.lemmas.List.Sums.{length-filter}
use Rattle.std.proofs.lemmas.Nat.{div-add-mod', mod_below}
use Rattle.std.proofs.Math.Nat.{mul-le-mul_left}
use Rattle.std.proofs.lemmas.Option.{slice_get_past}
use Rattle.bitmap_bytes.specs.Chunk.{chunk_bit, is_wanted, IsLastBelow, IsNth}
use Rattle.bitmap_bytes.proofs.Counting.Ones.{ones_from, ones_from_add, ones_from_same}
use Rattle.bitmap_bytes.proofs.Counting.Parts.{count_range}
use Rattle.bitmap_core.specs.Meaning.{Meaning, ShowsChunk, ones_between, seen_as}
use Rattle.bitmap_core.specs.Searches.{last}
use Rattle.bitmap_core.proofs.Lists.SetPositions.{ones_between-append, ones_between-false, ones_between-hit}

-- ---- positions in the list

-- the length of the list, as a count
pub length-ones : (bit : ℕ → Bool) (lo hi : ℕ) → length (ones_between bit lo hi) ≡ ones_from bit lo (hi - lo)
length-ones bit lo hi = length-filter bit (range_with_len lo (hi - lo)) ∙ count_range bit lo (hi - lo)

get_seam : (xs : List ℕ) (y : ℕ) (ys : List ℕ) → slice_get (xs ++ y ∷ ys) (length xs) ≡ Some y
get_seam [] y ys = refl
get_seam (x ∷ xs) y ys = get_seam xs y ys

-- the list is split at a position
split_at : (bit : ℕ → Bool) (lo p hi : ℕ) → lo ≤ p → p < hi → bit p ≡ true
    → ones_between bit lo hi ≡ ones_between bit lo p ++ p ∷ ones_between bit (p + 1) hi
split_at bit lo p hi h s e =
    ones_between-append bit lo p hi h (omega arith) ∙ ap (λ (l : List ℕ). ones_between bit lo p ++ l) (ones_between-hit bit p hi s e)

-- the position with k others before it is item k
pub get_nth : (bit : ℕ → Bool) (lo hi k p : ℕ) → IsNth bit lo hi k p → slice_get (ones_between bit lo hi) k ≡ Some p
get_nth bit lo hi k p nth =
    let e : k ≡ length (ones_between bit lo p) = sym (length-filter bit (range_with_len lo (p - lo)) ∙ nth.rank) in
    ap (λ (l : List ℕ). slice_get l k) (split_at bit lo p hi nth.above nth.below nth.passes)
    ∙ ap (slice_get (ones_between bit lo p ++ p ∷ ones_between bit (p + 1) hi)) e
    ∙ get_seam (ones_between bit lo p) p (ones_between bit (p + 1) hi)

-- if the list has at most k items, there is no item k
pub get_none : (bit : ℕ → Bool) (lo hi k : ℕ) → ones_from bit lo (hi - lo) ≤ k → slice_get (ones_between bit lo hi) k ≡ None
get_none bit lo hi k h = slice_get_past (ones_between bit lo hi) k (omega (arith, length-ones bit lo hi))

length-seam : (xs : List ℕ) (y : ℕ) → length (xs ++ y ∷ []) - 1 ≡ length xs
length-seam [] y = refl
length-seam (x ∷ xs) y = omega (arith, length-push xs y)
  where
    length-push : (zs : List ℕ) (z : ℕ) → length (zs ++ z ∷ []) ≡ length zs + 1
    length-push [] z = refl
    length-push (w ∷ zs) z = omega (arith, length-push zs z)

-- the greatest position is the last item
pub get_last : (bit : ℕ → Bool) (lo hi p : ℕ) → lo ≤ p → IsLastBelow bit hi p → last (ones_between bit lo hi) ≡ Some p
get_last bit lo hi p h l =
    let none : ones_between bit (p + 1) hi ≡ [] = ones_between-false bit (p + 1) hi (λ k a b. l.none_after k (omega arith) b) in
    let e : ones_between bit lo hi ≡ ones_between bit lo p ++ p ∷ [] =
    split_at bit lo p hi h l.below l.passes ∙ ap (λ (xs : List ℕ). ones_between bit lo p ++ p ∷ xs) none in
    ap last e ∙ ap (slice_get (ones_between bit lo p ++ p ∷ [])) (length-seam (ones_between bit lo p) p) ∙ get_seam (ones_between bit lo p) p []

pub last_none : (bit : ℕ → Bool) (lo hi top : ℕ) → top ≤ lo → ((i : ℕ) → top ≤ i → i < hi → bit i ≡ false) → last (ones_between bit lo hi) ≡ None
last_none bit lo hi top h none =
    let e : ones_between bit lo hi ≡ [] = ones_between-false bit lo hi (λ k a b. none k (omega arith) b) in
    ap last e

-- ---- a chunk of a bitmap

-- the bits of a chunk from a position on
shown_from : (n : ℕ) (m : Meaning) (at step : ℕ) (bytes : List ℕ) → ShowsChunk n m (at / (8 * n)) bytes
    → at % (8 * n) + step ≤ 8 * n → at + step ≤ m.len
    → (t : ℕ) → t < step → chunk_bit n bytes (at % (8 * n) + t) ≡ m.bit (at + t)
shown_from n m at step bytes shown within len t h =
    let d : 8 * n * (at / (8 * n)) + (at % (8 * n) + t) ≡ at + t = omega (arith, div-add-mod' at (8 * n)) in
    shown (at % (8 * n) + t) (omega arith) (omega (arith, d)) ∙ ap m.bit d

-- one iteration of a loop over chunks: `step` positions from `at` on, up to the end of its chunk or of the range
pub record IsTurn (n : ℕ) (m : Meaning) (first at end step : ℕ) (bytes : List ℕ) : Type 0 where
  pub positive : 0 < n
  pub low : first ≤ at
  pub below : at < end
  pub within : end ≤ m.len
  pub step_is : step ≡ min (8 * n - at % (8 * n)) (end - at)
  pub shown : ShowsChunk n m (at / (8 * n)) bytes

module _ (n : ℕ) (m : Meaning) (first at end step : ℕ) (bytes : List ℕ) (turn : IsTurn n m first at end step bytes) where
  in_chunk : at % (8 * n) + step ≤ 8 * n
  in_chunk = omega (arith, turn.step_is, mod_below at (8 * n) (omega (arith, turn.positive)))

  in_len : at + step ≤ m.len
  in_len = omega (arith, turn.step_is, turn.below, turn.within)

  same : (t : ℕ) → t < step → chunk_bit n bytes (at % (8 * n) + t) ≡ m.bit (at + t)
  same = shown_from n m at step bytes turn.shown in_chunk in_len

  -- the positions before a position of the iteration
  before : (t : ℕ) → t ≤ step → ones_from m.bit first (at + t - first) ≡ ones_from m.bit first (at - first) + ones_from (chunk_bit n bytes) (at % (8 * n)) t
  before t h =
      let l = turn.low in
      let d : at + t - first ≡ (at - first) + t = omega arith in
      let a : first + (at - first) ≡ at = omega arith in
      let s : ones_from (chunk_bit n bytes) (at % (8 * n)) t ≡ ones_from m.bit at t =
      ones_from_same (chunk_bit n bytes) m.bit (at % (8 * n)) at t (λ i b. same i (omega arith)) in
      let r = ap (ones_from m.bit first) d ∙ ones_from_add m.bit first (at - first) t ∙ ap (λ x. ones_from m.bit first (at - first) + ones_from m.bit x t) a in
      omega arith

  -- the count after one more chunk
  pub count_more : (count : ℕ) → count ≡ count_by (chunk_bit n bytes) (range_with_len (at % (8 * n)) (at % (8 * n) + step - at % (8 * n)))
      → ones_from m.bit first (at + step - first) ≡ ones_from m.bit first (at - first) + count
  count_more count e =
      let d : at % (8 * n) + step - at % (8 * n) ≡ step = omega arith in
      let c = e ∙ count_range (chunk_bit n bytes) (at % (8 * n)) (at % (8 * n) + step - at % (8 * n)) ∙ ap (ones_from (chunk_bit n bytes) (at % (8 * n))) d in
      omega (arith, before step (omega arith))

  -- a place of the chunk is a position of the bitmap
  pub nth_more : (left k bit : ℕ) → left + ones_from m.bit first (at - first) ≡ k
      → IsNth (chunk_bit n bytes) (at % (8 * n)) (at % (8 * n) + step) left bit
      → IsNth m.bit first end k (at - at % (8 * n) + bit)
  nth_more left k bit c nth =
      let above = nth.above in
      let below = nth.below in
      let low = turn.low in
      let t : ℕ = bit - at % (8 * n) in
      let h : t < step = omega arith in
      let r : at % (8 * n) ≤ at = omega (arith, div-add-mod' at (8 * n)) in
      let p : at - at % (8 * n) + bit ≡ at + t = omega arith in
      let b : bit ≡ at % (8 * n) + t = omega arith in
      let e : ones_from (chunk_bit n bytes) (at % (8 * n)) t ≡ left = sym (count_range (chunk_bit n bytes) (at % (8 * n)) t) ∙ nth.rank in
      record {
        above = omega arith;
        below = omega (arith, turn.step_is);
        passes = ap m.bit p ∙ sym (same t h) ∙ ap (chunk_bit n bytes) (sym b) ∙ nth.passes;
        rank =
            count_range m.bit first (at - at % (8 * n) + bit - first)
            ∙ ap (λ x. ones_from m.bit first (x - first)) p
            ∙ omega (arith, before t (omega arith));
      }

-- ---- a chunk of a bitmap, backwards

-- a chunk with a retained position begins with a retained position
chunk_start : (n p k : ℕ) → 0 < n → 8 * n * p ≤ k → 8 * n * p ≤ k - k % (8 * n)
chunk_start n p k h l =
    let b : k % (8 * n) < 8 * n = mod_below k (8 * n) (omega arith) in
    let e : k / (8 * n) * (8 * n) + k % (8 * n) ≡ k = div-add-mod' k (8 * n) in
    elim (cases_lt (k / (8 * n)) p) [
      | inl lt ↦ (let f : 8 * n * (k / (8 * n) + 1) ≤ 8 * n * p = mul-le-mul_left (8 * n) (omega arith) in absurd (omega arith))
      | inr ge ↦ (let f : 8 * n * p ≤ 8 * n * (k / (8 * n)) = mul-le-mul_left (8 * n) ge in omega arith)
    ]

module _ (n : ℕ) (m : Meaning) (wanted : Bool) (top end : ℕ) (bytes : List ℕ) (positive : 0 < n) (some : 0 < top) (high : top ≤ end) (within : end ≤ m.len)
    (shown : ShowsChunk n m ((top - 1) / (8 * n)) bytes) (none : (i : ℕ) → top ≤ i → i < end → (seen_as wanted m).bit i ≡ false) where
  abbrev base : ℕ
  base = top - 1 - (top - 1) % (8 * n)

  -- a bit of the chunk below top
  same_below : (i : ℕ) → base ≤ i → i < top → is_wanted wanted (chunk_bit n bytes (i - base)) ≡ (seen_as wanted m).bit i
  same_below i a b =
      let e : (top - 1) / (8 * n) * (8 * n) + (top - 1) % (8 * n) ≡ top - 1 = div-add-mod' (top - 1) (8 * n) in
      let l : (top - 1) % (8 * n) < 8 * n = mod_below (top - 1) (8 * n) (omega arith) in
      let d : 8 * n * ((top - 1) / (8 * n)) + (i - base) ≡ i = omega arith in
      ap (is_wanted wanted) (shown (i - base) (omega arith) (omega arith) ∙ ap m.bit d)

  pub none_below : ((j : ℕ) → j < (top - 1) % (8 * n) + 1 → is_wanted wanted (chunk_bit n bytes j) ≡ false)
      → (i : ℕ) → base ≤ i → i < end → (seen_as wanted m).bit i ≡ false
  none_below h i a b = elim (cases_lt i top) [
    | inl lt ↦ sym (same_below i a lt) ∙ h (i - base) (omega arith)
    | inr ge ↦ none i ge b
  ]

  pub found_below : (bit : ℕ) → IsLastBelow (λ j. is_wanted wanted (chunk_bit n bytes j)) ((top - 1) % (8 * n) + 1) bit
      → IsLastBelow (seen_as wanted m).bit end (base + bit)
  found_below bit l =
      let b = l.below in
      let r : (top - 1) % (8 * n) ≤ top - 1 = omega (arith, div-add-mod' (top - 1) (8 * n)) in
      let at : base + bit - base ≡ bit = omega arith in
      record {
        below = omega arith;
        passes = sym (same_below (base + bit) (omega arith) (omega arith)) ∙ ap (λ j. is_wanted wanted (chunk_bit n bytes j)) at ∙ l.passes;
        none_after = λ i a c. elim (cases_lt i top) [
          | inl lt ↦ sym (same_below i (omega arith) lt) ∙ l.none_after (i - base) (omega arith) (omega arith)
          | inr ge ↦ none i ge c
        ];
      }

  pub base_retained : 8 * n * m.pruned < top → 8 * n * m.pruned ≤ base
  base_retained h = chunk_start n m.pruned (top - 1) positive (omega arith)
