-- Ranges of the bits of bytes.
use Rattle.std.proofs.Common.{◌≡◌, ℕ, count_ones, ◌+◌, ◌-◌, ◌*◌, ◌/◌, ◌%◌, ◌^◌, ◌<◌, ◌≤◌, List, get_or, drop, eqb, bit_and, Bool, true, false, not, length, sym, ap, ◌∙◌, refl, arith}
use Rattle.std.specs.Int.{bit_at}
use Rattle.std.specs.List.{range_with_len, list_all, slice_range}
use Rattle.std.proofs.Math.Nat.{mod-eq_of_lt, one-le-pow, pow-le-pow_right}
use Rattle.std.proofs.lemmas.Nat.{pow-add, and_le_l}
use Rattle.std.proofs.lemmas.Nat.Bits.{bit_at-lt, bit_at_and, bit_at_mask_inside, bit_at_mask_below, bit_at_mask_above, ones_shr}
use Rattle.std.proofs.lemmas.List.{get_or-take, length-take, length-drop}
use Rattle.std.proofs.lemmas.Bool.Decides.{nat_tests}
use Rattle.bitmap_bytes.specs.Chunk.{chunk_bits, bytes_bit}
use Rattle.bitmap_bytes.proofs.Counting.Ones.{ones_from, ones_from_same}
use Rattle.bitmap_bytes.proofs.Counting.Places.{ones_from_clear, ones_from_split, none_from, more_ones, ones_of_zero, ones_of_other, rest_zero, some_left, some_right}
use Rattle.bitmap_bytes.proofs.Counting.Words.{bytes_bit-at, bytes_bit-drop, none_chunk, none_chunk_slice}

-- ---- a byte under a mask

one_more : (z y : ℕ) → z * y ≡ (z + 1) * y - y
one_more z y = grind arith

less_one : (x y : ℕ) → 1 ≤ x → (x - 1) * y ≡ x * y - y
less_one x y h = let e : x - 1 + 1 ≡ x = omega arith in one_more (x - 1) y ∙ ap (λ w. w * y - y) e

pub mask_is : (lo hi : ℕ) → lo < hi → hi ≤ 8 → 255 / 2 ^ (8 - (hi - lo)) * 2 ^ lo % 256 ≡ 2 ^ hi - 2 ^ lo
mask_is lo hi h s =
    let m : 8 - (8 - (hi - lo)) ≡ hi - lo = omega arith in
    let r : 255 / 2 ^ (8 - (hi - lo)) ≡ 2 ^ (hi - lo) - 1 = ones_shr 8 (8 - (hi - lo)) (omega arith) ∙ ap (λ x. 2 ^ x - 1) m in
    let e : hi - lo + lo ≡ hi = omega arith in
    let p : 2 ^ (hi - lo) * 2 ^ lo ≡ 2 ^ hi = sym (pow-add 2 (hi - lo) lo) ∙ ap (λ x. 2 ^ x) e in
    let q : (2 ^ (hi - lo) - 1) * 2 ^ lo ≡ 2 ^ hi - 2 ^ lo =
    less_one (2 ^ (hi - lo)) (2 ^ lo) (one-le-pow (hi - lo) 2 (omega arith))
    ∙ ap (λ x. x - 2 ^ lo) p in
    let l : 2 ^ hi ≤ 2 ^ 8 = pow-le-pow_right (omega arith) s in
    let o : 1 ≤ 2 ^ lo = one-le-pow lo 2 (omega arith) in
    ap (λ x. x * 2 ^ lo % 256) r ∙ ap (λ x. x % 256) q ∙ mod-eq_of_lt {n = 2 ^ hi - 2 ^ lo} {m = 256} (omega arith)

masked_out : (b m k : ℕ) → bit_at m k ≡ 0 → bit_at (bit_and b m) k ≡ 0
masked_out b m k h = omega (arith, bit_at_and b m k)

masked_in : (b m k : ℕ) → bit_at m k ≡ 1 → bit_at (bit_and b m) k ≡ bit_at b k
masked_in b m k h = omega (arith, bit_at_and b m k, bit_at-lt b k)

zero_ones : (n : ℕ) → eqb n 0 ≡ eqb (count_ones n) 0
zero_ones n = let o = ones_of_other n in let z = ones_of_zero n in grind (arith, nat_tests)

-- the bits of a byte under a mask of the positions from lo up to hi, hi excluded
masked_ones : (b lo hi w : ℕ) → b < 2 ^ w → lo ≤ hi → hi ≤ w
    → count_ones (bit_and b (2 ^ hi - 2 ^ lo)) ≡ ones_from (λ t. eqb (bit_at b t) 1) lo (hi - lo)
masked_ones b lo hi w f h s =
    let x : ℕ = bit_and b (2 ^ hi - 2 ^ lo) in
    let below = and_le_l b (2 ^ hi - 2 ^ lo) in
    let all = more_ones (λ t. eqb (bit_at x t) 1) x 0 w (omega arith) (λ t l. let z : t ≡ 0 + t = omega arith in ap (λ k. eqb (bit_at x k) 1) z) in
    let o : 0 + w ≡ w = omega arith in
    let n : w - 0 ≡ w = omega arith in
    let u : lo - 0 ≡ lo = omega arith in
    let first = ones_from_split (λ t. eqb (bit_at x t) 1) 0 lo w (omega arith) (omega arith) in
    let second = ones_from_split (λ t. eqb (bit_at x t) 1) lo hi w h s in
    let low : ones_from (λ t. eqb (bit_at x t) 1) 0 (lo - 0) ≡ 0 =
    ones_from_clear (λ t. eqb (bit_at x t) 1) 0 (lo - 0) (λ t l.
    ap (λ k. eqb k 1) (masked_out b (2 ^ hi - 2 ^ lo) (0 + t) (bit_at_mask_below lo hi (0 + t) (omega arith)))) in
    let high : ones_from (λ t. eqb (bit_at x t) 1) hi (w - hi) ≡ 0 =
    ones_from_clear (λ t. eqb (bit_at x t) 1) hi (w - hi) (λ t l.
    ap (λ k. eqb k 1) (masked_out b (2 ^ hi - 2 ^ lo) (hi + t) (bit_at_mask_above lo hi (hi + t) (omega arith)))) in
    let mid : ones_from (λ t. eqb (bit_at x t) 1) lo (hi - lo) ≡ ones_from (λ t. eqb (bit_at b t) 1) lo (hi - lo) =
    ones_from_same (λ t. eqb (bit_at x t) 1) (λ t. eqb (bit_at b t) 1) lo lo (hi - lo) (λ t l.
    ap (λ k. eqb k 1) (masked_in b (2 ^ hi - 2 ^ lo) (lo + t) (bit_at_mask_inside lo hi (lo + t) (omega arith) (omega arith)))) in
    let whole : count_ones x ≡ ones_from (λ t. eqb (bit_at x t) 1) 0 (w - 0) =
    (let z : count_ones x ≡ 0 + count_ones x = omega arith in z)
    ∙ all
    ∙ ap (λ k. ones_from (λ t. eqb (bit_at x t) 1) 0 k) (o ∙ sym n) in
    omega arith

pub none_masked : (b lo hi : ℕ) → b < 256 → lo < hi → hi ≤ 8
    → eqb (bit_and b (255 / 2 ^ (8 - (hi - lo)) * 2 ^ lo % 256)) 0 ≡ list_all (λ t. not (eqb (bit_at b t) 1)) (range_with_len lo (hi - lo))
none_masked b lo hi f h s =
    ap (λ m. eqb (bit_and b m) 0) (mask_is lo hi h s)
    ∙ zero_ones (bit_and b (2 ^ hi - 2 ^ lo))
    ∙ ap (λ x. eqb x 0) (masked_ones b lo hi 8 f (omega arith) s)
    ∙ sym (none_from (λ t. eqb (bit_at b t) 1) lo (hi - lo))

-- ---- several bytes

-- the bits of one byte
range_byte : (xs : List ℕ) (j a s e : ℕ) → e ≤ 8 → a ≡ 8 * j + s
    → ones_from (bytes_bit xs) a (e - s) ≡ ones_from (λ t. eqb (bit_at (get_or xs j 0) t) 1) s (e - s)
range_byte xs j a s e h q =
    ones_from_same (bytes_bit xs) (λ t. eqb (bit_at (get_or xs j 0) t) 1) a s (e - s) (λ t l.
    let r : a + t ≡ 8 * j + (s + t) = omega arith in
    ap (bytes_bit xs) r ∙ bytes_bit-at xs j (s + t) (omega arith))

pub none_in_byte : (xs : List ℕ) (from to : ℕ) → from < to → to ≤ 8 * length xs → from / 8 ≡ (to - 1) / 8
    → list_all (λ t. not (eqb (bit_at (get_or xs (from / 8) 0) t) 1)) (range_with_len (from % 8) ((to - 1) % 8 + 1 - from % 8))
    ≡ list_all not (slice_range (chunk_bits (length xs) xs) from to)
none_in_byte xs from to h w q =
    let k : (to - 1) % 8 + 1 - from % 8 ≡ to - from = omega arith in
    none_from (λ t. eqb (bit_at (get_or xs (from / 8) 0) t) 1) (from % 8) ((to - 1) % 8 + 1 - from % 8)
    ∙ ap (λ x. eqb x 0)
    (sym (range_byte xs (from / 8) from (from % 8) ((to - 1) % 8 + 1) (omega arith) (omega arith)) ∙ ap (λ m. ones_from (bytes_bit xs) from m) k)
    ∙ sym (none_chunk_slice (length xs) xs from to w)

-- whether no bit of a byte from position s up to e, e excluded, is set
abbrev none_in : ℕ → ℕ → ℕ → Bool
none_in b s e = list_all (λ t. not (eqb (bit_at b t) 1)) (range_with_len s (e - s))

-- the bits of the bytes from byte i up to byte j, j excluded
middle_ones : (xs : List ℕ) (i j : ℕ) → i ≤ j → j ≤ length xs
    → ones_from (bytes_bit xs) (8 * i) (8 * j - 8 * i) ≡ ones_from (bytes_bit (slice_range xs i j)) 0 (8 * length (slice_range xs i j))
middle_ones xs i j h w =
    let d = length-drop {A = ℕ} i xs in
    let t = length-take {A = ℕ} (j - i) (drop i xs) in
    let l : 8 * j - 8 * i ≡ 8 * length (slice_range xs i j) = omega arith in
    ones_from_same (bytes_bit xs) (bytes_bit (slice_range xs i j)) (8 * i) 0 (8 * j - 8 * i) (λ t s.
    let r : 8 * i + t ≡ 8 * i + (0 + t) = omega arith in
    ap (bytes_bit xs) r
    ∙ sym (bytes_bit-drop i xs (0 + t))
    ∙ ap (λ b. eqb (bit_at b ((0 + t) % 8)) 1) (sym (get_or-take (j - i) (drop i xs) ((0 + t) / 8) 0 (omega arith))))
    ∙ ap (λ m. ones_from (bytes_bit (slice_range xs i j)) 0 m) l

-- a range over several bytes: its part of the first, its part of the last, and the bytes between
range_parts : (xs : List ℕ) (from to : ℕ) → from < to → to ≤ 8 * length xs → (from / 8 ≡ (to - 1) / 8 → ⊥)
    → ones_from (bytes_bit xs) from (to - from)
    ≡ ones_from (λ t. eqb (bit_at (get_or xs (from / 8) 0) t) 1) (from % 8) (8 - from % 8)
    + (ones_from (λ t. eqb (bit_at (get_or xs ((to - 1) / 8) 0) t) 1) 0 ((to - 1) % 8 + 1 - 0)
    + ones_from (bytes_bit (slice_range xs (from / 8 + 1) ((to - 1) / 8))) 0 (8 * length (slice_range xs (from / 8 + 1) ((to - 1) / 8))))
range_parts xs from to h w d =
    let i : ℕ = from / 8 + 1 in
    let j : ℕ = (to - 1) / 8 in
    let o : i ≤ j = omega arith in
    let a = ones_from_split (bytes_bit xs) from (8 * i) to (omega arith) (omega arith) in
    let b = ones_from_split (bytes_bit xs) (8 * i) (8 * j) to (omega arith) (omega arith) in
    let p : 8 * i - from ≡ 8 - from % 8 = omega arith in
    let q : to - 8 * j ≡ (to - 1) % 8 + 1 - 0 = omega arith in
    let first = ap (λ m. ones_from (bytes_bit xs) from m) p ∙ range_byte xs (from / 8) from (from % 8) 8 (omega arith) (omega arith) in
    let last = ap (λ m. ones_from (bytes_bit xs) (8 * j) m) q ∙ range_byte xs j (8 * j) 0 ((to - 1) % 8 + 1) (omega arith) (omega arith) in
    let mid = middle_ones xs i j o (omega arith) in
    omega arith

pub none_between : (xs : List ℕ) (from to : ℕ) → from < to → to ≤ 8 * length xs → (from / 8 ≡ (to - 1) / 8 → ⊥)
    → none_in (get_or xs (from / 8) 0) (from % 8) 8 ≡ true
    → none_in (get_or xs ((to - 1) / 8) 0) 0 ((to - 1) % 8 + 1) ≡ true
    → list_all not (chunk_bits (length (slice_range xs (from / 8 + 1) ((to - 1) / 8))) (slice_range xs (from / 8 + 1) ((to - 1) / 8)))
    ≡ list_all not (slice_range (chunk_bits (length xs) xs) from to)
none_between xs from to h w d a b =
    let r = range_parts xs from to h w d in
    none_chunk (length (slice_range xs (from / 8 + 1) ((to - 1) / 8))) (slice_range xs (from / 8 + 1) ((to - 1) / 8))
    ∙ rest_zero _ _ _ refl (sym (none_from _ 0 _) ∙ b) ∙ rest_zero _ _ _ r (sym (none_from _ (from % 8) _) ∙ a)
    ∙ sym (none_chunk_slice (length xs) xs from to w)

pub some_first : (xs : List ℕ) (from to : ℕ) → from < to → to ≤ 8 * length xs → (from / 8 ≡ (to - 1) / 8 → ⊥)
    → none_in (get_or xs (from / 8) 0) (from % 8) 8 ≡ false
    → list_all not (slice_range (chunk_bits (length xs) xs) from to) ≡ false
some_first xs from to h w d a =
    none_chunk_slice (length xs) xs from to w ∙ some_left _ _ _ (range_parts xs from to h w d) (sym (none_from _ (from % 8) _) ∙ a)

pub some_last : (xs : List ℕ) (from to : ℕ) → from < to → to ≤ 8 * length xs → (from / 8 ≡ (to - 1) / 8 → ⊥)
    → none_in (get_or xs ((to - 1) / 8) 0) 0 ((to - 1) % 8 + 1) ≡ false
    → list_all not (slice_range (chunk_bits (length xs) xs) from to) ≡ false
some_last xs from to h w d b =
    let s = some_left _ _ _ refl (sym (none_from _ 0 _) ∙ b) in
    none_chunk_slice (length xs) xs from to w ∙ some_right _ _ _ (range_parts xs from to h w d) s
