-- Numbers that are written in eight bytes are read again.
use Rattle.std.proofs.Common.{◌≡◌, ℕ, zero, suc, ◌+◌, ◌^◌, ◌<◌, ◌≤◌, true, false, eqb, List, [], ◌∷◌, ◌++◌, length, get_or, take, drop, refl, sym, ap, ◌∙◌, arith, inl, inr}
use Rattle.std.specs.Int.{w64, from_be_bytes}
use Rattle.std.proofs.lemmas.Bool.{cases_lt, eqb-true, and_parts, false_from_ne_true}
use Rattle.std.proofs.lemmas.List.{take_at, drop_at, drop-drop, take-append-drop, length-take, length-drop, get_or-drop, get_or-take, get_or_past}
use Rattle.std.proofs.lemmas.Nat.{be_bytes_8, from_be_bytes-to_be_bytes_8}
use Rattle.log_frames.specs.Frames.{be64, number_at, are_zero}

-- each item is a byte
abbrev pub IsBytes : List ℕ → Type 0
IsBytes bytes = (i : ℕ) → get_or bytes i 0 < 256

pub IsBytes-drop : (n : ℕ) (bytes : List ℕ) → IsBytes bytes → IsBytes (drop n bytes)
IsBytes-drop n bytes h i = rw get_or-drop (h (n + i))

pub IsBytes-take : (n : ℕ) (bytes : List ℕ) → IsBytes bytes → IsBytes (take n bytes)
IsBytes-take n bytes h i =
    elim (cases_lt i n) [
      | inl lt ↦ rw (get_or-take n bytes i 0 lt) (h i)
      | inr le ↦ rw (get_or_past (take n bytes) i 0 (omega (arith, length-take n bytes))) (omega arith)
    ]

-- a number that is written after a prefix is read again
pub number-again : (prefix : List ℕ) (n : ℕ) (rest : List ℕ) (start : ℕ) → length prefix ≡ start → n < 2 ^ 64 → number_at start (prefix ++ (be64 n ++ rest)) ≡ n
number-again prefix n rest start e h =
    ap (λ (x : List ℕ). from_be_bytes w64 (take 8 x)) (drop_at prefix (be64 n ++ rest) start e)
    ∙ ap (from_be_bytes w64) (take_at (be64 n) rest 8 refl)
    ∙ from_be_bytes-to_be_bytes_8 n h

-- a number that is read fits 64 bits
pub number-lt : (start : ℕ) (bytes : List ℕ) → IsBytes bytes → number_at start bytes < 2 ^ 64
number-lt start bytes fits =
    let f = IsBytes-take 8 (drop start bytes) (IsBytes-drop start bytes fits) in omega (arith, f 0, f 1, f 2, f 3, f 4, f 5, f 6, f 7)

-- the bytes of a number that was read are there
pub number-takes : (start : ℕ) (bytes : List ℕ) → IsBytes bytes → start + 8 ≤ length bytes → drop start bytes ≡ be64 (number_at start bytes) ++ drop (start + 8) bytes
number-takes start bytes fits long =
    let from : List ℕ = drop start bytes in
    let eight : length (take 8 from) ≡ 8 = omega (arith, length-take 8 from, length-drop start bytes) in
    let is : be64 (number_at start bytes) ≡ take 8 from = be_bytes_8 (take 8 from) (number_at start bytes) eight (IsBytes-take 8 from (IsBytes-drop start bytes fits)) refl in
    sym (take-append-drop 8 from) ∙ ap (λ (x : List ℕ). x ++ drop 8 from) (sym is) ∙ ap (λ (x : List ℕ). be64 (number_at start bytes) ++ x) (drop-drop 8 start bytes)

-- each item of zero bytes is zero
zero_byte : (bytes : List ℕ) (i : ℕ) → are_zero bytes ≡ true → get_or bytes i 0 ≡ 0
zero_byte [] i e = refl
zero_byte (byte ∷ bytes) zero e = eqb-true byte 0 (and_parts (eqb byte 0) (are_zero bytes) e).0
zero_byte (byte ∷ bytes) (suc i) e = zero_byte bytes i (and_parts (eqb byte 0) (are_zero bytes) e).1

-- zero bytes begin with the number zero
zero_number : (bytes : List ℕ) → are_zero bytes ≡ true → number_at 0 bytes ≡ 0
zero_number bytes e =
    let f = (λ (i : ℕ) (lt : i < 8). get_or-take 8 bytes i 0 lt ∙ zero_byte bytes i e) in
    omega (arith, f 0 (omega arith), f 1 (omega arith), f 2 (omega arith), f 3 (omega arith), f 4 (omega arith), f 5 (omega arith), f 6 (omega arith), f 7 (omega arith))

-- bytes that begin with another number are not all zero
pub not-are_zero : (bytes : List ℕ) → 0 < number_at 0 bytes → are_zero bytes ≡ false
not-are_zero bytes some = false_from_ne_true (are_zero bytes) (λ e. absurd (omega (arith, some, zero_number bytes e)))
