-- The bits of one chunk, by position.
use Rattle.std.proofs.Common.{◌≡◌, ◌≢◌, ℕ, ◌+◌, ◌-◌, ◌*◌, ◌/◌, ◌%◌, ◌^◌, ◌<◌, ◌≤◌, Bool, false, List, length, get_or, set, replicate, eqb, bit_and, sym, ap, ◌∙◌, inl, inr, arith}
use Rattle.std.specs.Int.{bit_at}
use Rattle.std.proofs.Math.Arith.{mod-mul}
use Rattle.std.proofs.Math.Nat.{div-add-mod, mod-eq_of_lt}
use Rattle.std.proofs.lemmas.Nat.{mod_below, div-mul-add, mod-mul-add}
use Rattle.std.proofs.lemmas.Nat.Bits.{bit_at-lt, same_from_bits_below}
use Rattle.std.proofs.lemmas.List.{get_or-set_same, get_or-set_other, get_or-replicate}
use Rattle.std.proofs.lemmas.Bool.{cases_eq, cases_lt}
use Rattle.bitmap_bytes.specs.Chunk.{chunk_bit}
use Rattle.bitmap_bytes.proofs.Bytes.Bits.{bit_of_zero_byte, low_bit_below, low_bit_above, bit_same}

-- a position in a chunk determines one in its byte
pub mod_parts : (n i : ℕ) → 0 < n → i % (8 * n) ≡ (i / 8 % n) * 8 + i % 8
mod_parts n i p = ap (λ w. i % w) (omega arith) ∙ mod-mul i {m = n} {c = 8} p (omega arith)

-- the bits of the byte that is written, and the others
pub chunk_bit-set_here : (n : ℕ) (chunk : List ℕ) (bit v : ℕ) → 0 < n → length chunk ≡ n
    → chunk_bit n (set chunk (bit / 8 % n) v) bit ≡ eqb (bit_at v (bit % 8)) 1
chunk_bit-set_here n chunk bit v p l =
    ap (λ x. eqb (bit_at x (bit % 8)) 1) (get_or-set_same chunk (bit / 8 % n) v 0 (omega (arith, mod_below (bit / 8) n p)))

pub chunk_bit-set_other : (n : ℕ) (chunk : List ℕ) (bit v : ℕ) → 0 < n → length chunk ≡ n
    → ((k : ℕ) → k < 8 → k ≢ bit % 8 → bit_at v k ≡ bit_at (get_or chunk (bit / 8 % n) 0) k) → (i : ℕ)
    → i % (8 * n) ≢ bit % (8 * n)
    → chunk_bit n (set chunk (bit / 8 % n) v) i ≡ chunk_bit n chunk i
chunk_bit-set_other n chunk bit v p l h i d =
    let same_rest : i % 8 ≡ bit % 8 → i / 8 % n ≡ bit / 8 % n → i % (8 * n) ≡ bit % (8 * n) =
    λ q e. omega (arith, mod_parts n i p, mod_parts n bit p) in
    elim (cases_eq (i / 8 % n) (bit / 8 % n)) [
      | inl e ↦
          let byte = get_or-set_same chunk (bit / 8 % n) v 0 (omega (arith, mod_below (bit / 8) n p)) in
          ap (λ x. eqb (bit_at x (i % 8)) 1) (ap (λ b. get_or (set chunk (bit / 8 % n) v) b 0) e ∙ byte)
          ∙ ap (λ x. eqb x 1) (h (i % 8) (omega arith) (λ q. d (same_rest q e)) ∙ ap (λ b. bit_at (get_or chunk b 0) (i % 8)) (sym e))
      | inr e ↦ ap (λ x. eqb (bit_at x (i % 8)) 1) (get_or-set_other chunk (bit / 8 % n) (i / 8 % n) v 0 e)
    ]

-- if a byte is masked and those after it are zero, the bits below the position are kept and the others are zero
pub cleared : (n : ℕ) (old new : List ℕ) (at : ℕ) → 0 < n → ((k : ℕ) → at / 8 < k → k < n → get_or new k 0 ≡ 0)
    → get_or new (at / 8) 0 ≡ bit_and (get_or old (at / 8) 0) (2 ^ (at % 8) - 1)
    → ((k : ℕ) → k < at / 8 → get_or new k 0 ≡ get_or old k 0) → (i : ℕ)
    → (i % (8 * n) < at → chunk_bit n new i ≡ chunk_bit n old i) × (at ≤ i % (8 * n) → chunk_bit n new i ≡ false)
cleared n old new at p past here kept i =
    let m = mod_parts n i p in
    let d = div-add-mod at 8 in
    let r : i % 8 < 8 = mod_below i 8 (omega arith) in
    let s : at % 8 < 8 = mod_below at 8 (omega arith) in
    let w : i / 8 % n < n = mod_below (i / 8) n p in
    elim (cases_lt (i / 8 % n) (at / 8)) [
      | inl h ↦ (λ _. ap (λ x. eqb (bit_at x (i % 8)) 1) (kept (i / 8 % n) h), λ q. absurd (omega arith))
      | inr h ↦ elim (cases_eq (i / 8 % n) (at / 8)) [
        | inl e ↦ (
          λ q. ap (λ k. eqb (bit_at (get_or new k 0) (i % 8)) 1) e
              ∙ ap (λ x. eqb (bit_at x (i % 8)) 1) here
              ∙ ap (λ x. eqb x 1) (low_bit_below _ (at % 8) (i % 8) (omega arith))
              ∙ ap (λ k. eqb (bit_at (get_or old k 0) (i % 8)) 1) (sym e),
          λ q. ap (λ k. eqb (bit_at (get_or new k 0) (i % 8)) 1) e
              ∙ ap (λ x. eqb (bit_at x (i % 8)) 1) here
              ∙ ap (λ x. eqb x 1) (low_bit_above _ (at % 8) (i % 8) (omega arith)),
        )
        | inr e ↦ (λ q. absurd (omega arith), λ q. bit_of_zero_byte _ (i % 8) (past (i / 8 % n) (omega arith) w))
      ]
    ]

-- positions a whole number of chunks apart have the same bit of a chunk
pub chunk_bit-mod : (n : ℕ) (chunk : List ℕ) (i j : ℕ) → 0 < n → i % (8 * n) ≡ j % (8 * n) → chunk_bit n chunk i ≡ chunk_bit n chunk j
chunk_bit-mod n chunk i j p e =
    let a = mod_parts n i p in
    let b = mod_parts n j p in
    let q : i / 8 % n ≡ j / 8 % n = omega arith in
    let r : i % 8 ≡ j % 8 = omega arith in
    ap (λ k. eqb (bit_at (get_or chunk k 0) (i % 8)) 1) q ∙ ap (λ t. eqb (bit_at (get_or chunk (j / 8 % n) 0) t) 1) r

-- chunks with the same bits have the same bytes
pub byte_from_bits : (n : ℕ) (a b : List ℕ) (j : ℕ) → j < n → get_or a j 0 < 256 → get_or b j 0 < 256
    → ((i : ℕ) → chunk_bit n a i ≡ chunk_bit n b i)
    → get_or a j 0 ≡ get_or b j 0
byte_from_bits n a b j s h g e =
    same_from_bits_below 8 (get_or a j 0) (get_or b j 0) h g (λ t w.
    let q : (j * 8 + t) / 8 ≡ j = div-mul-add j 8 t w in
    let r : (j * 8 + t) % 8 ≡ t = mod-mul-add j 8 t w in
    let m : j % n ≡ j = mod-eq_of_lt s in
    let k : (j * 8 + t) / 8 % n ≡ j = ap (λ x. x % n) q ∙ m in
    let same : eqb (bit_at (get_or a j 0) t) 1 ≡ eqb (bit_at (get_or b j 0) t) 1 =
    ap (λ x. eqb (bit_at (get_or a j 0) x) 1) (sym r)
    ∙ ap (λ x. eqb (bit_at (get_or a x 0) ((j * 8 + t) % 8)) 1) (sym k)
    ∙ e (j * 8 + t)
    ∙ ap (λ x. eqb (bit_at (get_or b x 0) ((j * 8 + t) % 8)) 1) k
    ∙ ap (λ x. eqb (bit_at (get_or b j 0) x) 1) r in
    bit_same _ _ (bit_at-lt _ t) (bit_at-lt _ t) same)

-- a chunk that repeats one byte whose bits are equal
pub chunk_bit-fill : (n : ℕ) (v : ℕ) (b : Bool) (i : ℕ) → 0 < n → ((k : ℕ) → k < 8 → eqb (bit_at v k) 1 ≡ b)
    → chunk_bit n (replicate {A = ℕ} n v) i ≡ b
chunk_bit-fill n v b i p h =
    ap (λ x. eqb (bit_at x (i % 8)) 1) (get_or-replicate {A = ℕ} n (i / 8 % n) v 0 (mod_below (i / 8) n p)) ∙ h (i % 8) (mod_below i 8 (omega arith))
