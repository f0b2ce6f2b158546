-- A range of the bits of chunks that is written: a part of the first chunk, a part of the last, and the chunks between.
use Rattle.std.proofs.Common.{◌≡◌, ℕ, ◌+◌, ◌-◌, ◌*◌, ◌/◌, ◌%◌, ◌<◌, ◌≤◌, ◌⊎◌, Bool, List, length, ap, ◌∙◌, inl, inr, arith}
use Rattle.std.proofs.Math.Nat.{div-add-mod, lt_of_mul-lt-mul_left, mul-add}
use Rattle.std.proofs.lemmas.Nat.{mod_below}
use Rattle.std.proofs.lemmas.Bool.{cases_eq}
use Rattle.bitmap_bytes.specs.Bits.{chunks_bit}
use Rattle.bitmap_core.specs.Ranges.{IsRangePut}

-- the new chunks have x as the bits of chunk `at` from lo up to hi, hi excluded, and every other bit as the old chunks have it
pub record IsPutInChunk (n : ℕ) (old new : List (List ℕ)) (at lo hi : ℕ) (x : Bool) : Type 0 where
  pub inside : (i : ℕ) → i / (8 * n) ≡ at → lo ≤ i % (8 * n) → i % (8 * n) < hi → chunks_bit n new i ≡ x
  pub outside : (i : ℕ) → i / (8 * n) ≡ at → (i % (8 * n) < lo) ⊎ (hi ≤ i % (8 * n)) → chunks_bit n new i ≡ chunks_bit n old i
  pub others : (i : ℕ) → (i / (8 * n) ≡ at → ⊥) → chunks_bit n new i ≡ chunks_bit n old i
  pub count : length new ≡ length old

-- ---- positions by their chunk and their place in it

-- a position below another is in the same chunk or an earlier one
div_mono : (w a b : ℕ) → 0 < w → a ≤ b → a / w ≤ b / w
div_mono w a b p h =
    let s : a / w < b / w + 1 =
    lt_of_mul-lt-mul_left w (omega (arith, div-add-mod a w, div-add-mod b w, mod_below b w p, mul-add w (b / w) 1)) in
    omega arith

-- in one chunk, positions are ordered as their places
place_le : (w a b : ℕ) → a / w ≡ b / w → a ≤ b → a % w ≤ b % w
place_le w a b e h = omega (arith, div-add-mod a w, div-add-mod b w, ap (λ q. w * q) e)

place_lt : (w a b : ℕ) → a / w ≡ b / w → a < b → a % w < b % w
place_lt w a b e h = omega (arith, div-add-mod a w, div-add-mod b w, ap (λ q. w * q) e)

-- ---- the chunks

-- a range within one chunk
pub put_in_one : (n : ℕ) (old new : List (List ℕ)) (from to first last lo past : ℕ) (x : Bool) → 0 < n → from < to
    → first ≡ from / (8 * n) → last ≡ (to - 1) / (8 * n) → lo ≡ from % (8 * n) → past ≡ (to - 1) % (8 * n) + 1 → first ≡ last
    → IsPutInChunk n old new first lo past x
    → IsRangePut n old new from to x
put_in_one n old new from to first last lo past x p h a b c d e w = record {
  inside = λ i l s.
      let low = div_mono (8 * n) from i (omega arith) l in
      let high = div_mono (8 * n) i (to - 1) (omega arith) (omega arith) in
      let q : i / (8 * n) ≡ first = omega arith in
      w.inside i q
      (omega (arith, place_le (8 * n) from i (omega arith) l))
      (omega (arith, place_le (8 * n) i (to - 1) (omega arith) (omega arith)));
  outside = λ i o. elim (cases_eq (i / (8 * n)) first) [
    | inl q ↦ elim o [
      | inl s ↦ w.outside i q (inl (omega (arith, place_lt (8 * n) i from (omega arith) s)))
      | inr s ↦ w.outside i q (inr (omega (arith, place_lt (8 * n) (to - 1) i (omega arith) (omega arith))))
    ]
    | inr q ↦ w.others i q
  ];
  count = w.count;
}

-- a range over several chunks
pub put_in_more : (n : ℕ) (old one two new : List (List ℕ)) (from to first last lo width past : ℕ) (x : Bool) → 0 < n → from < to
    → first ≡ from / (8 * n) → last ≡ (to - 1) / (8 * n) → lo ≡ from % (8 * n) → width ≡ 8 * n → past ≡ (to - 1) % (8 * n) + 1
    → (first ≡ last → ⊥)
    → IsPutInChunk n old one first lo width x → IsPutInChunk n one two last 0 past x
    → ((i : ℕ) → first + 1 ≤ i / (8 * n) → i / (8 * n) < last → chunks_bit n new i ≡ x)
    → ((i : ℕ) → (i / (8 * n) < first + 1) ⊎ (last ≤ i / (8 * n)) → chunks_bit n new i ≡ chunks_bit n two i)
    → length new ≡ length two
    → IsRangePut n old new from to x
put_in_more n old one two new from to first last lo width past x p h a b c d e f w v inside outside count =
    let order = div_mono (8 * n) from (to - 1) (omega arith) (omega arith) in
    let apart : first < last = omega arith in
    record {
      inside = λ i l s.
          let low = div_mono (8 * n) from i (omega arith) l in
          let high = div_mono (8 * n) i (to - 1) (omega arith) (omega arith) in
          elim (cases_eq (i / (8 * n)) first) [
            | inl q ↦
                outside i (inl (omega arith))
                ∙ v.others i (λ z. absurd (omega arith))
                ∙ w.inside i q (omega (arith, place_le (8 * n) from i (omega arith) l)) (omega (arith, mod_below i (8 * n) (omega arith)))
            | inr q ↦ elim (cases_eq (i / (8 * n)) last) [
              | inl r ↦ outside i (inr (omega arith)) ∙ v.inside i r (omega arith) (omega (arith, place_le (8 * n) i (to - 1) (omega arith) (omega arith)))
              | inr r ↦ inside i (omega arith) (omega arith)
            ]
          ];
      outside = λ i o. elim o [
        | inl s ↦
            let low = div_mono (8 * n) i from (omega arith) (omega arith) in
            outside i (inl (omega arith))
            ∙ v.others i (λ z. absurd (omega arith))
            ∙ elim (cases_eq (i / (8 * n)) first) [
              | inl q ↦ w.outside i q (inl (omega (arith, place_lt (8 * n) i from (omega arith) s)))
              | inr q ↦ w.others i q
            ]
        | inr s ↦
            let high = div_mono (8 * n) (to - 1) i (omega arith) (omega arith) in
            outside i (inr (omega arith))
            ∙ elim (cases_eq (i / (8 * n)) last) [
              | inl q ↦ v.outside i q (inr (omega (arith, place_lt (8 * n) (to - 1) i (omega arith) (omega arith))))
              | inr q ↦ v.others i q
            ]
            ∙ w.others i (λ z. absurd (omega arith))
      ];
      count = count ∙ v.count ∙ w.count;
    }
