-- Whether some position of a range passes a test.
use Rattle.std.proofs.Common.{◌≡◌, ℕ, suc, zero, ◌+◌, ◌-◌, ◌*◌, ◌<◌, ◌≤◌, Bool, true, false, not, ◌&&◌, ◌||◌, List, refl, sym, ap, ◌∙◌, inl, inr, arith}
use Rattle.std.specs.List.{range_with_len, list_any, list_all, slice_range}
use Rattle.std.proofs.lemmas.Bool.{cases_eq}
use Rattle.std.proofs.lemmas.List.FromFn.{length-map-range_with_len, get_or-map-range_with_len}
use Rattle.bitmap_bytes.specs.Chunk.{chunk_bit, chunk_bits}
use Rattle.bitmap_bytes.proofs.Counting.Places.{none_from, none_slice}

-- if none passes, a given one does not
pub any_range_at : (f : ℕ → Bool) (a m i : ℕ) → list_any f (range_with_len a m) ≡ false → a ≤ i → i < a + m → f i ≡ false
any_range_at f a zero i e l h = absurd (omega arith)
any_range_at f a (suc m) i e l h =
    elim (cases_eq i a) [
      | inl q ↦ ap f q ∙ or_first (f a) (list_any f (range_with_len (a + 1) m)) e
      | inr d ↦ any_range_at f (a + 1) m i (or_second (f a) (list_any f (range_with_len (a + 1) m)) e) (omega arith) (omega arith)
    ]
  where
    or_first : (b c : Bool) → (b || c) ≡ false → b ≡ false
    or_first true c e = e
    or_first false c e = refl

    or_second : (b c : Bool) → (b || c) ≡ false → c ≡ false
    or_second true c e = absurd cc
    or_second false c e = e

-- if each one does not pass, none does
pub any_range_none : (f : ℕ → Bool) (a m : ℕ) → ((i : ℕ) → a ≤ i → i < a + m → f i ≡ false) → list_any f (range_with_len a m) ≡ false
any_range_none f a zero h = refl
any_range_none f a (suc m) h = rw (h a (omega arith) (omega arith)) (any_range_none f (a + 1) m (λ i l s. h i (omega arith) (omega arith)))

-- tests that agree, from two positions on
pub any_range-moved : (f g : ℕ → Bool) (a b m : ℕ) → ((j : ℕ) → j < m → f (a + j) ≡ g (b + j))
    → list_any f (range_with_len a m) ≡ list_any g (range_with_len b m)
any_range-moved f g a b zero h = refl
any_range-moved f g a b (suc m) h =
    let first : f a ≡ g b = ap f (let e : a ≡ a + 0 = omega arith in e) ∙ h 0 (omega arith) ∙ ap g (let e : b + 0 ≡ b = omega arith in e) in
    rw (
      first,
      any_range-moved f g (a + 1) (b + 1) m (λ j s.
          ap f (let e : a + 1 + j ≡ a + (1 + j) = omega arith in e)
          ∙ h (1 + j) (omega arith)
          ∙ ap g (let e : b + (1 + j) ≡ b + 1 + j = omega arith in e)),
    ) refl

-- tests that agree on a range
pub any_range-same : (f g : ℕ → Bool) (a m : ℕ) → ((i : ℕ) → a ≤ i → i < a + m → f i ≡ g i)
    → list_any f (range_with_len a m) ≡ list_any g (range_with_len a m)
any_range-same f g a m h = any_range-moved f g a a m (λ j s. h (a + j) (omega arith) (omega arith))

-- some position passes if not all fail
any_range-not : (f : ℕ → Bool) (a m : ℕ) → list_any f (range_with_len a m) ≡ not (list_all (λ t. not (f t)) (range_with_len a m))
any_range-not f a zero = refl
any_range-not f a (suc m) = step (f a) _ _ (any_range-not f (a + 1) m)
  where
    step : (b r s : Bool) → r ≡ not s → (b || r) ≡ not (not b && s)
    step true r s e = refl
    step false r s e = e

-- a bit of a chunk in a range is set if not all bits of the range are zero
pub some_chunk_slice : (n : ℕ) (c : List ℕ) (a b : ℕ) → b ≤ 8 * n
    → not (list_all not (slice_range (chunk_bits n c) a b)) ≡ list_any (chunk_bit n c) (range_with_len a (b - a))
some_chunk_slice n c a b h =
    let l = length-map-range_with_len (chunk_bit n c) 0 (8 * n) in
    let s = none_slice (chunk_bits n c) (chunk_bit n c) a b (omega arith) (λ i w.
    get_or-map-range_with_len (chunk_bit n c) 0 (8 * n) i i false (omega arith) (omega arith)) in
    ap not (s ∙ sym (none_from (chunk_bit n c) a (b - a))) ∙ sym (any_range-not (chunk_bit n c) a (b - a))
