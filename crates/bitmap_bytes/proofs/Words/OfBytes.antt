-- The bits of a word that is read from eight bytes, the lowest first.
use Rattle.std.proofs.Common.{◌≡◌, ℕ, zero, suc, ◌+◌, ◌-◌, ◌*◌, ◌/◌, ◌%◌, ◌^◌, ◌<◌, ◌≤◌, List, get_or, refl, ap, sym, ◌∙◌, inl, inr, arith}
use Rattle.std.specs.Int.{bit_at, w64, sum_through, byte_worth, from_le_bytes}
use Rattle.std.proofs.lemmas.Nat.{mul-add-lt}
use Rattle.std.proofs.lemmas.Nat.Bits.{bit_at_cat_low, bit_at_cat_high}
use Rattle.std.proofs.Math.Pow.{pow-add}
use Rattle.std.proofs.Math.Nat.{pow-suc}
use Rattle.std.proofs.lemmas.Bool.{cases_lt}

pub worth_pow : (k : ℕ) → 256 ^ k ≡ 2 ^ (8 * k)
worth_pow zero = refl
worth_pow (suc k) =
    let e : 8 * k + 8 ≡ 8 * suc k = omega arith in
    pow-suc 256 k ∙ ap (λ x. x * 256) (worth_pow k) ∙ sym (pow-add 2 (8 * k) 8) ∙ ap (λ x. 2 ^ x) e

encoded : (ℕ → ℕ) → ℕ → ℕ
encoded f k = sum_through (λ i. byte_worth i (f i)) k

encoded-suc : (f : ℕ → ℕ) (k : ℕ) → encoded f (suc k) ≡ f (suc k) * 2 ^ (8 * suc k) + encoded f k
unfolding encoded
encoded-suc f k = let e = ap (λ x. f (suc k) * x) (worth_pow (suc k)) in omega arith

encoded-lt : (f : ℕ → ℕ) (k : ℕ) → ((i : ℕ) → i ≤ k → f i < 256) → encoded f k < 2 ^ (8 * suc k)
unfolding encoded
encoded-lt f zero h = omega (arith, h 0 (omega arith))
encoded-lt f (suc k) h =
    let l = encoded-lt f k (λ i s. h i (omega arith)) in
    let e : 8 * suc k + 8 ≡ 8 * suc (suc k) = omega arith in
    let p : 2 ^ (8 * suc (suc k)) ≡ 2 ^ (8 * suc k) * 256 = ap (λ x. 2 ^ x) (sym e) ∙ pow-add 2 (8 * suc k) 8 in
    rw (encoded-suc f k, p) (mul-add-lt _ _ _ _ (h (suc k) (omega arith)) l)

bit_at-encoded : (f : ℕ → ℕ) (k : ℕ) → ((i : ℕ) → i ≤ k → f i < 256) → (t : ℕ) → t < 8 * suc k → bit_at (encoded f k) t ≡ bit_at (f (t / 8)) (t % 8)
unfolding encoded
bit_at-encoded f zero h t s = let q : t / 8 ≡ 0 = omega arith in let r : t % 8 ≡ t = omega arith in rw (q, r)
bit_at-encoded f (suc k) h t s = ap (λ x. bit_at x t) (encoded-suc f k) ∙ elim (cases_lt t (8 * suc k)) [
  | inl l ↦ bit_at_cat_low (f (suc k)) (8 * suc k) (encoded f k) t l ∙ bit_at-encoded f k (λ i m. h i (omega arith)) t l
  | inr l ↦
      let q : t / 8 ≡ suc k = omega arith in
      let r : t % 8 ≡ t - 8 * suc k = omega arith in
      bit_at_cat_high (f (suc k)) (8 * suc k) (encoded f k) t (encoded-lt f k (λ i m. h i (omega arith))) l ∙ rw (q, r)
]

-- a word that is made of eight bytes has their bits
pub word_bits : (bytes word : List ℕ) → ((i : ℕ) → get_or bytes i 0 < 256)
    → ((k : ℕ) → k < 8 → get_or word k 0 ≡ get_or bytes k 0) → (t : ℕ) → t < 64
    → bit_at (from_le_bytes w64 word) t ≡ bit_at (get_or bytes (t / 8) 0) (t % 8)
unfolding encoded
word_bits bytes word h same t s =
    bit_at-encoded (λ k. get_or word k 0) 7 (λ k m. let e = same k (omega arith) in let b = h k in omega arith) t s
    ∙ ap (λ b. bit_at b (t % 8)) (same (t / 8) (omega arith))

-- a word that is read from eight bytes has their bits
pub word_bit : (bytes : List ℕ) (t : ℕ) → ((i : ℕ) → get_or bytes i 0 < 256) → t < 64
    → bit_at (from_le_bytes w64 bytes) t ≡ bit_at (get_or bytes (t / 8) 0) (t % 8)
word_bit bytes t h s = word_bits bytes bytes h (λ k l. refl) t s
