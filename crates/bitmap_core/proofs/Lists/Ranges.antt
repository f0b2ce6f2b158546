-- Lists of bits with a range of positions that is set.
use Rattle.std.proofs.Common.{◌≡◌, ℕ, ◌<◌, ◌≤◌, Bool, true, false, List, length, get_or, cond, refl, sym, ap, ◌∙◌, inl, inr, arith}
use Rattle.std.proofs.lemmas.Bool.{cases_lt, lt-ltb, le-ltb}
use Rattle.std.proofs.lemmas.List.FromFn.{length-map-range_with_len, get_or-map-range_with_len}
use Rattle.bitmap_bytes.specs.Bits.{chunks_bit, bits, IsZeroFrom}
use Rattle.bitmap_bytes.proofs.Lists.Bits.{get_or-bits, bits_are, len_is}
use Rattle.bitmap_core.specs.Ranges.{is_between, set_between, IsRangePut}

-- ---- whether a position is in a range

pub between_in : (lo hi k : ℕ) → lo ≤ k → k < hi → is_between lo hi k ≡ true
between_in lo hi k l h = rw (le-ltb k lo l, lt-ltb k hi h) refl

pub between_below : (lo hi k : ℕ) → k < lo → is_between lo hi k ≡ false
between_below lo hi k h = rw (lt-ltb k lo h) refl

pub between_above : (lo hi k : ℕ) → lo ≤ k → hi ≤ k → is_between lo hi k ≡ false
between_above lo hi k l h = rw (le-ltb k lo l, le-ltb k hi h) refl

-- ---- the list

pub length-set_between : (v : List Bool) (lo hi : ℕ) (x : Bool) → length (set_between v lo hi x) ≡ length v
length-set_between v lo hi x = length-map-range_with_len (λ k. cond (is_between lo hi k) x (get_or v k false)) 0 (length v)

pub get_or-set_between : (v : List Bool) (lo hi : ℕ) (x : Bool) (i : ℕ) → i < length v
    → get_or (set_between v lo hi x) i false ≡ cond (is_between lo hi i) x (get_or v i false)
get_or-set_between v lo hi x i h = get_or-map-range_with_len (λ k. cond (is_between lo hi k) x (get_or v k false)) 0 (length v) i i false h (omega arith)

-- a range of the chunks' bits is set
pub bits-set_between : (n : ℕ) (xs ys : List (List ℕ)) (len lo hi : ℕ) (x : Bool) (v : List Bool) → IsRangePut n xs ys lo hi x
    → bits n xs len ≡ v
    → bits n ys len ≡ set_between v lo hi x
bits-set_between n xs ys len lo hi x v w e =
    let l = len_is n xs len v e in
    bits_are n ys len (set_between v lo hi x) (length-set_between v lo hi x ∙ l) (λ i s.
    let own : chunks_bit n xs i ≡ get_or v i false = sym (get_or-bits n xs len i false s) ∙ ap (λ b. get_or b i false) e in
    let there = get_or-set_between v lo hi x i (omega arith) in
    elim (cases_lt i lo) [
      | inl u ↦ w.outside i (inl u) ∙ own ∙ sym (there ∙ ap (λ b. cond b x (get_or v i false)) (between_below lo hi i u))
      | inr u ↦ elim (cases_lt i hi) [
        | inl t ↦ w.inside i u t ∙ sym (there ∙ ap (λ b. cond b x (get_or v i false)) (between_in lo hi i u t))
        | inr t ↦ w.outside i (inr t) ∙ own ∙ sym (there ∙ ap (λ b. cond b x (get_or v i false)) (between_above lo hi i u t))
      ]
    ])

-- a range below the length leaves zeros past it
pub IsZeroFrom-set_between : (n : ℕ) (xs ys : List (List ℕ)) (len lo hi : ℕ) (x : Bool) → IsRangePut n xs ys lo hi x → hi ≤ len
    → IsZeroFrom n xs len
    → IsZeroFrom n ys len
IsZeroFrom-set_between n xs ys len lo hi x w h z i s = w.outside i (inr (omega arith)) ∙ z i s
