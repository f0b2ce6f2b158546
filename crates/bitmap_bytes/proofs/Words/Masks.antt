-- The bits of a word of a chunk, masked, and without its lowest set bit.
use Rattle.std.proofs.Common.{◌≡◌, ◌≢◌, ℕ, suc, ◌+◌, ◌-◌, ◌*◌, ◌/◌, ◌%◌, ◌^◌, ◌<◌, ◌≤◌, eqb, not, List, get_or, drop, min, ap, sym, ◌∙◌, inl, inr, arith}
use Rattle.std.specs.Int.{bit_at, w64, leading_zeros, trailing_zeros}
use Rattle.std.specs.Prelude.{bit_and}
use Rattle.std.proofs.lemmas.Nat.{mod_below, div-add-mod', pow_pos, leading_top}
use Rattle.std.proofs.lemmas.Nat.Bits.{bit_at-trailing_zeros, bit_at-pow_same, bit_at-pow_other, same_from_bits_below, bit_at_cat_low, bit_at_cat_high, bit_at_and, bit_at_not, bit_at_above, bit_at-lt, bit_at_ones_above, ones_shl, bit_at_mask_inside, bit_at_mask_below}
use Rattle.std.proofs.lemmas.List.{get_or-drop}
use Rattle.std.proofs.Math.Pow.{pow-add, pow-lt}
use Rattle.std.proofs.Math.Nat.{mod-eq_of_lt, div-eq_of_lt-le, pow-succ'}
use Rattle.std.proofs.lemmas.Bool.{cases_eq, cases_lt}
use Rattle.std.proofs.lemmas.Bool.Decides.{nat_tests}
use Rattle.bitmap_bytes.specs.Chunk.{chunk_bit}

-- ---- a word of a chunk

-- a bit of the chunk from a byte on
pub rest_bit : (n : ℕ) (chunk : List ℕ) (byte t : ℕ) → 8 * byte + t < 8 * n
    → eqb (bit_at (get_or (drop byte chunk) (t / 8) 0) (t % 8)) 1 ≡ chunk_bit n chunk (8 * byte + t)
rest_bit n chunk byte t h =
    let q : (8 * byte + t) / 8 ≡ byte + t / 8 = omega arith in
    let r : t % 8 ≡ (8 * byte + t) % 8 = omega arith in
    let m : byte + t / 8 ≡ (8 * byte + t) / 8 % n = sym (ap (λ x. x % n) q ∙ mod-eq_of_lt {n = byte + t / 8} {m = n} (omega arith)) in
    ap (λ b. eqb (bit_at b (t % 8)) 1) (get_or-drop byte chunk (t / 8) 0 ∙ ap (λ x. get_or chunk x 0) m)
    ∙ ap (λ x. eqb (bit_at (get_or chunk ((8 * byte + t) / 8 % n) 0) x) 1) r

-- ---- a part of a word

-- the mask of the lowest bits
pub low_mask : (count : ℕ) → count < 64 → 1 * 2 ^ count % 2 ^ 64 - 1 ≡ 2 ^ count - 1
low_mask count h = let p : 2 ^ count < 2 ^ 64 = pow-lt h in omega arith

high_mask : (word start t : ℕ) → start < 64
    → bit_at (bit_and word ((2 ^ 64 - 1) * 2 ^ start % 2 ^ 64)) t ≡ min (bit_at word t) (bit_at (2 ^ 64 - 2 ^ start) t)
high_mask word start t h = rw (ones_shl 64 start (omega arith)) (bit_at_and word (2 ^ 64 - 2 ^ start) t)

pub high_bit_kept : (word start t : ℕ) → start < 64 → start ≤ t → t < 64 → bit_at (bit_and word ((2 ^ 64 - 1) * 2 ^ start % 2 ^ 64)) t ≡ bit_at word t
high_bit_kept word start t h a b = omega (arith, high_mask word start t h, bit_at_mask_inside start 64 t a b, bit_at-lt word t)

pub high_bit_cut : (word start t : ℕ) → start < 64 → t < start → bit_at (bit_and word ((2 ^ 64 - 1) * 2 ^ start % 2 ^ 64)) t ≡ 0
high_bit_cut word start t h a = omega (arith, high_mask word start t h, bit_at_mask_below start 64 t a)

-- ---- the lowest bit of a word

-- the lowest set bit of a word
pub lowest : (word : ℕ) → 0 < word → word < 2 ^ 64
    → (trailing_zeros w64 word < 64) × (bit_at word (trailing_zeros w64 word) ≡ 1) × ((t : ℕ) → t < trailing_zeros w64 word → bit_at word t ≡ 0)
lowest word h f = bit_at-trailing_zeros w64 word h f

-- a word less 1, if its lowest set bit is at index place
module _ (word place : ℕ) (set : bit_at word place ≡ 1) (below : (t : ℕ) → t < place → bit_at word t ≡ 0) where
  abbrev p : ℕ
  p = 2 ^ (place + 1)

  parts : word ≡ word / p * p + word % p
  parts = sym (div-add-mod' word p)

  low_fits : word % p < p
  low_fits = mod_below word p (pow_pos (place + 1))

  twice : p ≡ 2 ^ place * 2
  twice = pow-add 2 place 1

  low_bit : (t : ℕ) → t < place + 1 → bit_at (word % p) t ≡ bit_at (2 ^ place) t
  low_bit t h = sym (ap (λ x. bit_at x t) parts ∙ bit_at_cat_low (word / p) (place + 1) (word % p) t h) ∙ elim (cases_eq t place) [
    | inl e ↦ ap (λ x. bit_at word x) e ∙ set ∙ sym (bit_at-pow_same place) ∙ ap (λ x. bit_at (2 ^ place) x) (sym e)
    | inr d ↦ below t (omega arith) ∙ sym (bit_at-pow_other place t d)
  ]

  low_is : word % p ≡ 2 ^ place
  low_is = same_from_bits_below (place + 1) (word % p) (2 ^ place) low_fits (let e = twice in let q = pow_pos place in omega arith) low_bit

  less_one : word - 1 ≡ word / p * p + (2 ^ place - 1)
  less_one = let e = parts in let q = low_is in let z = pow_pos place in omega arith

  less_one_bit : (t : ℕ) → place < t → bit_at (word - 1) t ≡ bit_at word t
  less_one_bit t h =
      let e = twice in let z = pow_pos place in
      ap (λ x. bit_at x t) less_one ∙ bit_at_cat_high (word / p) (place + 1) (2 ^ place - 1) t (omega arith) (omega arith)
      ∙ sym (ap (λ x. bit_at x t) parts ∙ bit_at_cat_high (word / p) (place + 1) (word % p) t low_fits (omega arith))

  less_one_here : bit_at (word - 1) place ≡ 0
  less_one_here =
      ap (λ x. bit_at x place) less_one
      ∙ bit_at_cat_low (word / p) (place + 1) (2 ^ place - 1) place (omega arith)
      ∙ bit_at_ones_above place place (omega arith)

  pub without_here : bit_at (bit_and word (word - 1)) place ≡ 0
  without_here = let e = less_one_here in omega (arith, bit_at_and word (word - 1) place)

  pub without_other : (t : ℕ) → t ≢ place → bit_at (bit_and word (word - 1)) t ≡ bit_at word t
  without_other t d = elim (cases_lt t place) [
    | inl s ↦ let e = below t s in omega (arith, bit_at_and word (word - 1) t)
    | inr s ↦ let e = less_one_bit t (omega arith) in omega (arith, bit_at_and word (word - 1) t)
  ]

-- ---- a word inverted

pub inverted_bit : (word t : ℕ) → word < 2 ^ 64 → t < 64 → eqb (bit_at (2 ^ 64 - 1 - word) t) 1 ≡ not (eqb (bit_at word t) 1)
inverted_bit word t h s =
    let e : bit_at (2 ^ 64 - 1 - word) t ≡ 1 - bit_at word t = bit_at_not w64 word t h s in
    let l = bit_at-lt word t in
    grind (arith, nat_tests)

-- ---- the highest bit of a word

-- the highest set bit of a word
pub highest_one : (word : ℕ) → 0 < word → word < 2 ^ 64
    → (leading_zeros w64 word < 64) × (bit_at word (63 - leading_zeros w64 word) ≡ 1) × ((t : ℕ) → 63 - leading_zeros w64 word < t → bit_at word t ≡ 0)
highest_one word h f =
    let top = leading_top 64 word h f in
    let at : 63 - leading_zeros w64 word ≡ top.0 = omega (arith, top.1) in
    let q : word / 2 ^ top.0 ≡ 1 = div-eq_of_lt-le (2 ^ top.0) {m = word} (omega (arith, top.2)) (omega (arith, top.3, pow-succ' 2 top.0)) in
    let one : bit_at word top.0 ≡ 1 = ap (λ x. x % 2) q in (
      omega (arith, top.1),
      ap (λ x. bit_at word x) at ∙ one,
      λ t s. bit_at_above word (suc top.0) t top.3 (omega arith),
    )
