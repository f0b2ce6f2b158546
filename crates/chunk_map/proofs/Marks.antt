-- The bits of a node that say for which digits it has links.
use Rattle.std.proofs.Common.{◌≡◌, ◌≢◌, ℕ, zero, suc, ◌+◌, ◌-◌, ◌/◌, ◌%◌, ◌^◌, ◌<◌, ◌≤◌, List, length, slice_index, slice_set, replicate, max, arith, refl, sym, ap, ◌∙◌, subst}
use mathlib.Core.Logic.{inl, inr}
use Rattle.std.specs.Int.{bit_at, trailing_zeros, w32}
use Rattle.std.specs.Int.Bits.{bit_or}
use Rattle.std.proofs.lemmas.Bool.{cases_eq, cases_lt}
use Rattle.std.proofs.lemmas.List.{get_or-set_same, get_or-set_other, get_or-replicate}
use Rattle.std.proofs.lemmas.Nat.{or_lt}
use Rattle.std.proofs.Math.Nat.{div-le_self}
use Rattle.std.proofs.lemmas.Nat.Bits.{bit_at-lt, bit_at-trailing_zeros, bit_at-zero, bit_at_clear_other, bit_at_clear_same, bit_at_or, bit_at_set_other, bit_at_set_same, bit_at-pow_other, bit_at-pow_same}
use Rattle.chunk_map.specs.Trie.{AreMarked, mark_of, marked}
use Rattle.chunk_map.proofs.Digits.{div_more}

marked_same : (used digit link : ℕ) → digit < 16 → bit_at (marked used digit link) digit ≡ mark_of link
marked_same used digit zero d = bit_at_clear_same w32 used digit (omega (arith, d))
marked_same used digit (suc link) d = bit_at_set_same w32 used digit (omega (arith, d))

marked_other : (used digit link other : ℕ) → digit < 16 → other < 16 → other ≢ digit → bit_at (marked used digit link) other ≡ bit_at used other
marked_other used digit zero other d o ne = bit_at_clear_other w32 used digit (omega (arith, d)) other (omega (arith, o)) ne
marked_other used digit (suc link) other d o ne = bit_at_set_other w32 used digit (omega (arith, d)) other ne

-- the bits after a link was replaced are right
pub marks_set : (links : List ℕ) (used digit link : ℕ) → length links ≡ 16 → digit < 16 → AreMarked links used → AreMarked (slice_set links digit link) (marked used digit link)
marks_set links used digit link size d m other o = elim (cases_eq other digit) [
  | inl e ↦
      let P : ℕ → Type 0 = λ x. bit_at (marked used digit link) x ≡ mark_of (slice_index (slice_set links digit link) x) in
      subst P (sym e) (marked_same used digit link d ∙ ap mark_of (sym (get_or-set_same links digit link 0 (omega (arith, size, d)))))
  | inr ne ↦ marked_other used digit link other d o ne ∙ m other o ∙ ap mark_of (sym (get_or-set_other links digit other link 0 ne))
]

-- no link, and no bit
pub marks_none : AreMarked (replicate 16 0) 0
marks_none digit d = bit_at-zero digit ∙ ap mark_of (sym (get_or-replicate 16 digit 0 0 d))

mark_none : (link : ℕ) → mark_of link ≡ 0 → link ≡ 0
mark_none zero e = refl
mark_none (suc link) e = absurd (omega (arith, e))

-- the bits of a number from a place on
bit_from : (n from i : ℕ) → bit_at (n / 2 ^ from) i ≡ bit_at n (from + i)
bit_from n from i = ap (λ x. x % 2) (sym (div_more n from i))

-- the first digit from one on that is marked, or 16
abbrev pub first_marked : ℕ → ℕ → ℕ
first_marked used from = from + trailing_zeros w32 (bit_or used 65536 / 2 ^ from)

pub first_marked_is : (links : List ℕ) (used from : ℕ) → AreMarked links used → from ≤ 16 → used < 2 ^ 32 → (first_marked used from ≤ 16) × (first_marked used from < 16 → slice_index links (first_marked used from) ≢ 0) × ((digit : ℕ) → from ≤ digit → digit < first_marked used from → slice_index links digit ≡ 0)
first_marked_is links used from m within fits =
    let n = bit_or used 65536 / 2 ^ from in
    let t = trailing_zeros w32 n in
    let first = from + t in
    let at : (i : ℕ) → bit_at n i ≡ max (bit_at used (from + i)) (bit_at 65536 (from + i)) = λ i. bit_from (bit_or used 65536) from i ∙ bit_at_or used 65536 (from + i) in
    let last : bit_at n (16 - from) ≡ 1 =
    let b : bit_at 65536 (from + (16 - from)) ≡ 1 = ap (bit_at 65536) (let e : from + (16 - from) ≡ 16 = omega arith in e) ∙ bit_at-pow_same 16 in
    let a = at (16 - from) in
    let l = bit_at-lt n (16 - from) in
    omega (arith, a, b, l) in
    let n_fits : n < 2 ^ 32 = let b = or_lt 32 used 65536 fits (omega arith) in let l = div-le_self (bit_or used 65536) (2 ^ from) in omega (arith, b, l) in
    let some : 0 < n = elim (cases_lt 0 n) [
      | inl l ↦ l
      | inr l ↦
          let none : n ≡ 0 = omega (arith, l) in
          let z : bit_at n (16 - from) ≡ 0 = ap (λ x. bit_at x (16 - from)) none ∙ bit_at-zero (16 - from) in
          absurd (omega (arith, z, last))
    ] in
    let z = bit_at-trailing_zeros w32 n some n_fits in
    let z1 = z.1 in
    let z2 = z.2 in
    let top : first ≤ 16 = elim (cases_lt (16 - from) t) [
      | inl l ↦ let no = z2 (16 - from) l in absurd (omega (arith, no, last))
      | inr l ↦ omega (arith, l, within)
    ] in (
      top,
      λ lt none.
          let a = at t in
          let mine : bit_at used first ≡ 0 = m first lt ∙ ap mark_of none in
          let other : bit_at 65536 first ≡ 0 = bit_at-pow_other 16 first (λ e. absurd (omega (arith, lt, e))) in
          let one = z1 in
          absurd (omega (arith, a, mine, other, one)),
      λ digit lo hi.
          let i = digit - from in
          let no = z2 i (omega (arith, lo, hi)) in
          let is : from + i ≡ digit = omega (arith, lo) in
          let a = at i in
          let mine : bit_at used digit ≡ 0 = ap (bit_at used) (sym is) ∙ omega (arith, a, no) in
          mark_none (slice_index links digit) (sym (m digit (omega (arith, hi, top))) ∙ mine),
    )
