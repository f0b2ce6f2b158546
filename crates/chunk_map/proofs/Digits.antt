-- Digits of keys.
use Rattle.std.proofs.Common.{◌≡◌, ◌≢◌, ℕ, ◌+◌, ◌-◌, ◌/◌, ◌%◌, ◌^◌, ◌<◌, ◌≤◌, arith, sym, ap, ◌∙◌}
use mathlib.Core.Logic.{inl, inr}
use Rattle.std.proofs.lemmas.Bool.{cases_lt}
use Rattle.std.proofs.lemmas.Nat.{pow-add}
use Rattle.std.proofs.Math.Nat.{div-div-eq-div-mul}

-- a key without its digits below s + n is that without those below s, without n more
pub div_more : (x s n : ℕ) → x / 2 ^ (s + n) ≡ x / 2 ^ s / 2 ^ n
div_more x s n = ap (λ w. x / w) (pow-add 2 s n) ∙ sym (div-div-eq-div-mul x (2 ^ s) (2 ^ n))

-- keys that agree from a shift on agree from a greater one on
pub same_above : (a b s t : ℕ) → s ≤ t → a / 2 ^ s ≡ b / 2 ^ s → a / 2 ^ t ≡ b / 2 ^ t
same_above a b s t le e =
    let n : t ≡ s + (t - s) = omega arith in
    rw (n, div_more a s (t - s), div_more b s (t - s)) (ap (λ x. x / 2 ^ (t - s)) e)

-- the digits above one
pub div_digit : (x s : ℕ) → x / 2 ^ (s + 4) ≡ x / 2 ^ s / 16
div_digit x s = div_more x s 4

-- keys that differ from a shift on, and agree from another on, differ from a lower one on
pub shift_below : (a b s t : ℕ) → a / 2 ^ s ≢ b / 2 ^ s → a / 2 ^ t ≡ b / 2 ^ t → s < t
shift_below a b s t ne e = elim (cases_lt s t) [ inl l ↦ l | inr l ↦ absurd (ne (same_above a b t s l e)) ]

-- keys that differ above a digit have a further digit
pub further_digit : (a b s : ℕ) → a < 2 ^ 64 → b < 2 ^ 64 → s ≤ 60 → s % 4 ≡ 0 → a / 2 ^ s / 16 ≢ b / 2 ^ s / 16 → s + 4 ≤ 60
further_digit a b s fa fb most digit ne = elim (cases_lt s 60) [
  | inl l ↦ omega arith
  | inr l ↦
      let last : s ≡ 60 = omega arith in
      let zero_a : a / 2 ^ 60 / 16 ≡ 0 = omega arith in
      let zero_b : b / 2 ^ 60 / 16 ≡ 0 = omega arith in
      absurd (ne (rw last (zero_a ∙ sym zero_b)))
]

-- keys that differ above a digit differ from the next shift on
pub apart_next : (a b s : ℕ) → a / 2 ^ s / 16 ≢ b / 2 ^ s / 16 → a / 2 ^ (s + 4) ≢ b / 2 ^ (s + 4)
apart_next a b s ne e = ne (sym (div_digit a s) ∙ e ∙ div_digit b s)
