-- The bits of a byte that is written, flipped or masked.
use Rattle.std.proofs.Common.{◌≡◌, ◌≢◌, ℕ, ◌-◌, ◌^◌, ◌<◌, ◌≤◌, true, false, not, ◌&&◌, eqb, bit_and, bit_or, bit_xor, w8, ap, ◌∙◌, arith, zero, suc, ◌+◌, ◌%◌, ◌||◌, refl, inl, inr}
use Rattle.std.specs.Int.{bit_at}
use Rattle.std.proofs.lemmas.Nat.Bits.{and_pow, bit_at-lt, bit_at_or, bit_at_and, bit_at_xor, bit_at_not, bit_at-pow_same, bit_at-pow_other, bit_at-zero, bit_at_ones, bit_at_ones_above, bit_at_above}
use Rattle.std.proofs.Math.Bool.{xor}
use Rattle.std.proofs.lemmas.Bool.{cases_lt}
use Rattle.std.proofs.lemmas.Bool.Decides.{nat_tests}

-- the expression that the code tests is the bit of the byte
pub bit_test : (b k : ℕ) → not (eqb (bit_and b (2 ^ k)) 0) ≡ eqb (bit_at b k) 1
bit_test b k = let e = and_pow b k in let l = bit_at-lt b k in grind (arith, nat_tests)

-- a bit that is set, and the other bits
pub bit_or_here : (b k : ℕ) → bit_at (bit_or b (2 ^ k)) k ≡ 1
bit_or_here b k = let e = bit_at_or b (2 ^ k) k in let p = bit_at-pow_same k in let l = bit_at-lt b k in grind arith

pub bit_or_other : (b k i : ℕ) → i ≢ k → bit_at (bit_or b (2 ^ k)) i ≡ bit_at b i
bit_or_other b k i h = let e = bit_at_or b (2 ^ k) i in let p = bit_at-pow_other k i h in grind arith

-- a bit that is cleared, and the other bits
pub bit_clear_here : (b k : ℕ) → k < 8 → 2 ^ k < 256 → bit_at (bit_and b (255 - 2 ^ k)) k ≡ 0
bit_clear_here b k h s =
    let e = bit_at_and b (255 - 2 ^ k) k in
    let p = bit_at-pow_same k in
    let q : bit_at (255 - 2 ^ k) k ≡ 1 - bit_at (2 ^ k) k = bit_at_not w8 (2 ^ k) k s h in
    grind arith

pub bit_clear_other : (b k i : ℕ) → i < 8 → 2 ^ k < 256 → i ≢ k → bit_at (bit_and b (255 - 2 ^ k)) i ≡ bit_at b i
bit_clear_other b k i h s d =
    let e = bit_at_and b (255 - 2 ^ k) i in
    let p = bit_at-pow_other k i d in
    let q : bit_at (255 - 2 ^ k) i ≡ 1 - bit_at (2 ^ k) i = bit_at_not w8 (2 ^ k) i s h in
    let l = bit_at-lt b i in
    grind arith

-- a bit that is flipped, and the other bits
pub bit_flip_here : (b k : ℕ) → eqb (bit_at (bit_xor b (2 ^ k)) k) 1 ≡ not (eqb (bit_at b k) 1)
bit_flip_here b k = let e = bit_at_xor b (2 ^ k) k in let p = bit_at-pow_same k in let l = bit_at-lt b k in grind (arith, nat_tests)

pub bit_flip_other : (b k i : ℕ) → i ≢ k → bit_at (bit_xor b (2 ^ k)) i ≡ bit_at b i
bit_flip_other b k i h = let e = bit_at_xor b (2 ^ k) i in let p = bit_at-pow_other k i h in let l = bit_at-lt b i in grind arith

pub bit_of_full_byte : (b k : ℕ) → b ≡ 255 → k < 8 → eqb (bit_at b k) 1 ≡ true
bit_of_full_byte b k h s = ap (λ x. eqb (bit_at x k) 1) h ∙ ap (λ x. eqb x 1) (bit_at_ones 8 k s)

pub bit_of_zero_byte : (b k : ℕ) → b ≡ 0 → eqb (bit_at b k) 1 ≡ false
bit_of_zero_byte b k h = ap (λ x. eqb (bit_at x k) 1) h ∙ ap (λ x. eqb x 1) (bit_at-zero k)

pub and_bit : (a b k : ℕ) → eqb (bit_at (bit_and a b) k) 1 ≡ eqb (bit_at a k) 1 && eqb (bit_at b k) 1
and_bit a b k = let e = bit_at_and a b k in let p = bit_at-lt a k in let q = bit_at-lt b k in grind (arith, nat_tests)

-- every bit of a byte flipped
pub flip_bit : (a k : ℕ) → a < 256 → k < 8 → eqb (bit_at (255 - a) k) 1 ≡ not (eqb (bit_at a k) 1)
flip_bit a k h s =
    let e : bit_at (255 - a) k ≡ 1 - bit_at a k = bit_at_not w8 a k h s in
    let l = bit_at-lt a k in
    grind (arith, nat_tests)

-- the lowest m bits are kept, and the others are zero
pub low_bit_below : (a m k : ℕ) → k < m → bit_at (bit_and a (2 ^ m - 1)) k ≡ bit_at a k
low_bit_below a m k h = let e = bit_at_and a (2 ^ m - 1) k in let o = bit_at_ones m k h in let l = bit_at-lt a k in grind arith

pub low_bit_above : (a m k : ℕ) → m ≤ k → bit_at (bit_and a (2 ^ m - 1)) k ≡ 0
low_bit_above a m k h = let e = bit_at_and a (2 ^ m - 1) k in let o = bit_at_ones_above m k h in grind arith

-- two binary digits are equal if each is one whenever the other is
pub bit_same : (a b : ℕ) → a < 2 → b < 2 → eqb a 1 ≡ eqb b 1 → a ≡ b
bit_same a b h s e = grind (arith, nat_tests)

pub or_bit : (a b k : ℕ) → eqb (bit_at (bit_or a b) k) 1 ≡ eqb (bit_at a k) 1 || eqb (bit_at b k) 1
or_bit a b k = let e = bit_at_or a b k in let p = bit_at-lt a k in let q = bit_at-lt b k in grind (arith, nat_tests)

xor_digits : (m p : ℕ) → m < 2 → p < 2 → eqb ((m + p) % 2) 1 ≡ xor (eqb m 1) (eqb p 1)
unfolding xor
xor_digits zero zero h s = refl
xor_digits zero (suc zero) h s = refl
xor_digits (suc zero) zero h s = refl
xor_digits (suc zero) (suc zero) h s = refl
xor_digits (suc (suc m)) p h s = absurd (omega arith)
xor_digits zero (suc (suc p)) h s = absurd (omega arith)
xor_digits (suc zero) (suc (suc p)) h s = absurd (omega arith)

pub xor_bit : (a b k : ℕ) → eqb (bit_at (bit_xor a b) k) 1 ≡ xor (eqb (bit_at a k) 1) (eqb (bit_at b k) 1)
xor_bit a b k = ap (λ x. eqb x 1) (bit_at_xor a b k) ∙ xor_digits (bit_at a k) (bit_at b k) (bit_at-lt a k) (bit_at-lt b k)

pub bit_of_ones_byte : (k : ℕ) → k < 8 → eqb (bit_at 255 k) 1 ≡ true
bit_of_ones_byte k h = ap (λ x. eqb x 1) (bit_at_ones 8 k h)

-- the bits of one byte that another byte has not
pub and_not_bit : (a b k : ℕ) → a < 256 → b < 256 → eqb (bit_at (bit_and a (255 - b)) k) 1 ≡ eqb (bit_at a k) 1 && not (eqb (bit_at b k) 1)
and_not_bit a b k f g =
    let e = bit_at_and a (255 - b) k in
    let p = bit_at-lt a k in
    let q = bit_at-lt b k in
    elim (cases_lt k 8) [
      | inl s ↦ let r : bit_at (255 - b) k ≡ 1 - bit_at b k = bit_at_not w8 b k g s in grind (arith, nat_tests)
      | inr s ↦ let r : bit_at a k ≡ 0 = bit_at_above a 8 k f s in grind (arith, nat_tests)
    ]
