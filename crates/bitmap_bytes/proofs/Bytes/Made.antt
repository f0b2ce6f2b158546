-- A byte made from its bits, and a chunk from its bytes.
use Rattle.std.proofs.Common.{◌≡◌, ℕ, zero, suc, ◌+◌, ◌*◌, ◌/◌, ◌%◌, ◌<◌, ◌≤◌, Bool, true, false, List, ◌∷◌, length, get_or, map, refl, sym, ap, ◌∙◌, inl, inr, eqb, arith}
use Rattle.std.specs.Int.{bit_at}
use Rattle.std.specs.List.{range_with_len}
use Rattle.std.proofs.Math.Nat.{mod-eq_of_lt}
use Rattle.std.proofs.lemmas.Nat.{div-mul-add, mod-mul-add}
use Rattle.std.proofs.lemmas.List.{ext_get_or}
use Rattle.std.proofs.lemmas.List.FromFn.{length-map-range_with_len, get_or-map-range_with_len}
use Rattle.std.proofs.lemmas.Bool.{cases_eq, eq-eqb, ne_eqb}
use Rattle.bitmap_bytes.specs.Chunk.{bit_value, byte_of, chunk_bit}

value_of_digit : (d : ℕ) → d < 2 → bit_value (eqb d 1) ≡ d
value_of_digit d h = elim (cases_eq d 1) [
  | inl e ↦ rw (eq-eqb d 1 e) (sym e)
  | inr ne ↦ rw (ne_eqb d 1 ne) (omega (arith, ne))
]

-- a byte is the one that is made of its own bits
pub byte_is : (x : ℕ) → x < 256 → byte_of (λ t. eqb (bit_at x t) 1) ≡ x
byte_is x h =
    omega (
      arith,
      value_of_digit (x / 1 % 2),
      value_of_digit (x / 2 % 2),
      value_of_digit (x / 4 % 2),
      value_of_digit (x / 8 % 2),
      value_of_digit (x / 16 % 2),
      value_of_digit (x / 32 % 2),
      value_of_digit (x / 64 % 2),
      value_of_digit (x / 128 % 2),
    )

-- bytes with the same bits are equal
pub byte_same : (f g : ℕ → Bool) → ((t : ℕ) → t < 8 → f t ≡ g t) → byte_of f ≡ byte_of g
byte_same f g h =
    rw (
      h 0 (omega arith),
      h 1 (omega arith),
      h 2 (omega arith),
      h 3 (omega arith),
      h 4 (omega arith),
      h 5 (omega arith),
      h 6 (omega arith),
      h 7 (omega arith),
    ) refl

-- functions that agree on a range of numbers give the same list
pub map_range_same : {X : Type 0} (f g : ℕ → X) (a m : ℕ) → ((j : ℕ) → a ≤ j → j < a + m → f j ≡ g j)
    → map f (range_with_len a m) ≡ map g (range_with_len a m)
map_range_same f g a zero h = refl
map_range_same f g a (suc m) h =
    rw (h a (omega arith) (omega arith)) (ap (λ ys. g a ∷ ys) (map_range_same f g (a + 1) m (λ j l r. h j (omega arith) (omega arith))))

-- bit t of byte j of a chunk
chunk_bit_in_byte : (n : ℕ) (c : List ℕ) (j t : ℕ) → j < n → t < 8 → chunk_bit n c (8 * j + t) ≡ eqb (bit_at (get_or c j 0) t) 1
chunk_bit_in_byte n c j t h s =
    let e : 8 * j + t ≡ j * 8 + t = omega arith in
    let q : (8 * j + t) / 8 ≡ j = ap (λ x. x / 8) e ∙ div-mul-add j 8 t s in
    let r : (8 * j + t) % 8 ≡ t = ap (λ x. x % 8) e ∙ mod-mul-add j 8 t s in
    let k : (8 * j + t) / 8 % n ≡ j = ap (λ x. x % n) q ∙ mod-eq_of_lt h in
    ap (λ x. eqb (bit_at (get_or c x 0) ((8 * j + t) % 8)) 1) k ∙ ap (λ x. eqb (bit_at (get_or c j 0) x) 1) r

-- a chunk is the list of the bytes that its bits make
pub bytes_are : (n : ℕ) (c : List ℕ) (bit : ℕ → Bool) → length c ≡ n → ((j : ℕ) → get_or c j 0 < 256)
    → ((t : ℕ) → t < 8 * n → chunk_bit n c t ≡ bit t)
    → c ≡ map (λ j. byte_of (λ t. bit (8 * j + t))) (range_with_len 0 n)
bytes_are n c bit l r h =
    let byte : ℕ → ℕ = λ j. byte_of (λ t. bit (8 * j + t)) in
    ext_get_or 0 c (map byte (range_with_len 0 n)) (l ∙ sym (length-map-range_with_len byte 0 n)) (λ j b.
    let s : j < n = omega arith in
    sym (byte_is (get_or c j 0) (r j))
    ∙ byte_same (λ t. eqb (bit_at (get_or c j 0) t) 1) (λ t. bit (8 * j + t)) (λ t w.
    sym (chunk_bit_in_byte n c j t s w)
    ∙ h (8 * j + t) (omega arith))
    ∙ sym (get_or-map-range_with_len (λ j. byte_of (λ t. bit (8 * j + t))) 0 n j j 0 s (omega arith)))

digit_below : (x : Bool) → bit_value x < 2
digit_below true = omega arith
digit_below false = omega arith

pub digit_is : (x : Bool) → eqb (bit_value x) 1 ≡ x
digit_is true = refl
digit_is false = refl

-- the digits of a number that is made of eight digits
module _ (digit : ℕ → ℕ) (below : (t : ℕ) → digit t < 2) where
  abbrev eight : ℕ
  eight =
      (((((((0 + digit 0 * 1) + digit 1 * 2) + digit 2 * 4) + digit 3 * 8) + digit 4 * 16) + digit 5 * 32) + digit 6 * 64) + digit 7 * 128

  digit_of : (t : ℕ) → t < 8 → bit_at eight t ≡ digit t
  digit_of zero h = let e : eight / 1 % 2 ≡ digit 0 = omega (arith, below) in e
  digit_of (suc zero) h = let e : eight / 2 % 2 ≡ digit 1 = omega (arith, below) in e
  digit_of (suc (suc zero)) h = let e : eight / 4 % 2 ≡ digit 2 = omega (arith, below) in e
  digit_of (suc (suc (suc zero))) h = let e : eight / 8 % 2 ≡ digit 3 = omega (arith, below) in e
  digit_of (suc (suc (suc (suc zero)))) h = let e : eight / 16 % 2 ≡ digit 4 = omega (arith, below) in e
  digit_of (suc (suc (suc (suc (suc zero))))) h = let e : eight / 32 % 2 ≡ digit 5 = omega (arith, below) in e
  digit_of (suc (suc (suc (suc (suc (suc zero)))))) h = let e : eight / 64 % 2 ≡ digit 6 = omega (arith, below) in e
  digit_of (suc (suc (suc (suc (suc (suc (suc zero))))))) h = let e : eight / 128 % 2 ≡ digit 7 = omega (arith, below) in e
  digit_of (suc (suc (suc (suc (suc (suc (suc (suc t)))))))) h = absurd (omega arith)

-- the bits of a byte that is made of bits
pub byte_bit : (bit : ℕ → Bool) (t : ℕ) → t < 8 → bit_at (byte_of bit) t ≡ bit_value (bit t)
byte_bit bit t h = digit_of (λ k. bit_value (bit k)) (λ k. digit_below (bit k)) t h

-- the bits of the bytes that are made of bits
pub chunk_bit_of_bytes : (n : ℕ) (bit : ℕ → Bool) (i : ℕ) → 0 < n → i < 8 * n
    → chunk_bit n (map (λ j. byte_of (λ t. bit (8 * j + t))) (range_with_len 0 n)) i ≡ bit i
chunk_bit_of_bytes n bit i p h =
    let s : i / 8 < n = omega arith in
    let k : i / 8 % n ≡ i / 8 = mod-eq_of_lt s in
    let byte : get_or (map (λ j. byte_of (λ t. bit (8 * j + t))) (range_with_len 0 n)) (i / 8) 0 ≡ byte_of (λ t. bit (8 * (i / 8) + t)) =
    get_or-map-range_with_len (λ j. byte_of (λ t. bit (8 * j + t))) 0 n (i / 8) (i / 8) 0 s (omega arith) in
    ap (λ x. eqb (bit_at (get_or (map (λ j. byte_of (λ t. bit (8 * j + t))) (range_with_len 0 n)) x 0) (i % 8)) 1) k
    ∙ ap (λ x. eqb (bit_at x (i % 8)) 1) byte
    ∙ ap (λ x. eqb x 1) (byte_bit (λ t. bit (8 * (i / 8) + t)) (i % 8) (omega arith))
    ∙ digit_is (bit (8 * (i / 8) + i % 8))
    ∙ ap bit (omega arith)
