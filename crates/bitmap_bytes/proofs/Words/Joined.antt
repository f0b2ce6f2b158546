-- A word joined from two neighbours of a run of bytes, and the bytes of a word.
use Rattle.std.proofs.Common.{◌≡◌, ℕ, suc, zero, ◌+◌, ◌-◌, ◌*◌, ◌/◌, ◌%◌, ◌^◌, ◌<◌, ◌≤◌, List, get_or, take, drop, eqb, ap, ◌∙◌, inl, inr, w64, arith}
use Rattle.std.specs.Int.{bit_at, byte_at, bytes_low_first, from_le_bytes, to_le_bytes}
use Rattle.std.proofs.lemmas.List.{get_or-take, get_or-drop, get_or_past, length-take}
use Rattle.std.proofs.lemmas.Bool.{cases_lt}
use Rattle.bitmap_bytes.specs.Chunk.{bytes_bit}
use Rattle.bitmap_bytes.proofs.Words.OfBytes.{worth_pow, word_bit}
use Rattle.bitmap_bytes.proofs.Bytes.Shifted.{bit_at_mod, bit_at_shr}

piece_fits : (bytes : List ℕ) (at : ℕ) → ((i : ℕ) → get_or bytes i 0 < 256) → (i : ℕ) → get_or (take 8 (drop at bytes)) i 0 < 256
piece_fits bytes at h i = elim (cases_lt i 8) [
  | inl s ↦ rw (get_or-take 8 (drop at bytes) i 0 s, get_or-drop at bytes i 0) (h (at + i))
  | inr s ↦ rw (get_or_past (take 8 (drop at bytes)) i 0 (omega (arith, length-take {A = ℕ} 8 (drop at bytes)))) (omega arith)
]

-- bit t of the word that begins in a run at byte at and continues in the byte after its eight bytes
pub joined_word_bit : (run : List ℕ) (at s b t : ℕ) → ((i : ℕ) → get_or run i 0 < 256) → s < 8 → t < 64
    → (t + s < 64 → bit_at b t ≡ bit_at (from_le_bytes w64 (take 8 (drop at run))) (t + s))
    → (64 ≤ t + s → bit_at b t ≡ bit_at (get_or run (at + 8) 0) (t + s - 64))
    → eqb (bit_at b t) 1 ≡ bytes_bit run (8 * at + s + t)
joined_word_bit run at s b t f h w low high = elim (cases_lt (t + s) 64) [
  | inl u ↦
      let c : (t + s) / 8 < 8 = omega arith in
      let q : at + (t + s) / 8 ≡ (8 * at + s + t) / 8 = omega arith in
      let r : (t + s) % 8 ≡ (8 * at + s + t) % 8 = omega arith in
      ap (λ x. eqb x 1) (low u)
      ∙ ap (λ x. eqb x 1) (word_bit (take 8 (drop at run)) (t + s) (piece_fits run at f) u)
      ∙ ap (λ x. eqb (bit_at x ((t + s) % 8)) 1) (get_or-take 8 (drop at run) ((t + s) / 8) 0 c ∙ get_or-drop at run ((t + s) / 8) 0)
      ∙ ap (λ k. eqb (bit_at (get_or run k 0) ((t + s) % 8)) 1) q
      ∙ ap (λ k. eqb (bit_at (get_or run ((8 * at + s + t) / 8) 0) k) 1) r
  | inr u ↦
      let q : at + 8 ≡ (8 * at + s + t) / 8 = omega arith in
      let r : t + s - 64 ≡ (8 * at + s + t) % 8 = omega arith in
      ap (λ x. eqb x 1) (high u)
      ∙ ap (λ k. eqb (bit_at (get_or run k 0) (t + s - 64)) 1) q
      ∙ ap (λ k. eqb (bit_at (get_or run ((8 * at + s + t) / 8) 0) k) 1) r
]

-- ---- a number written as bytes

get_or-low_first : (i k n j : ℕ) → j < k → get_or (bytes_low_first i k n) j 0 ≡ byte_at (i + j) n
get_or-low_first i zero n j h = absurd (omega arith)
get_or-low_first i (suc k) n zero h = let e : i ≡ i + 0 = omega arith in ap (λ x. byte_at x n) e
get_or-low_first i (suc k) n (suc j) h =
    let e : suc i + j ≡ i + suc j = omega arith in
    get_or-low_first (suc i) k n j (omega arith) ∙ ap (λ x. byte_at x n) e

byte_bit : (j n t : ℕ) → t < 8 → bit_at (byte_at j n) t ≡ bit_at n (8 * j + t)
byte_bit zero n t h = let e : t ≡ 8 * 0 + t = omega arith in bit_at_mod 8 n t h ∙ ap (bit_at n) e
byte_bit (suc j) n t h =
    let e : t + 8 * suc j ≡ 8 * suc j + t = omega arith in
    bit_at_mod 8 (n / 256 ^ suc j) t h ∙ ap (λ x. bit_at (n / x) t) (worth_pow (suc j)) ∙ bit_at_shr n (8 * suc j) t ∙ ap (bit_at n) e

-- bit t of byte j of a word
pub word_byte_bit : (n j t : ℕ) → j < 8 → t < 8 → bit_at (get_or (to_le_bytes w64 n) j 0) t ≡ bit_at n (8 * j + t)
word_byte_bit n j t h s =
    let e : 0 + j ≡ j = omega arith in
    ap (λ x. bit_at x t) (get_or-low_first 0 8 n j h ∙ ap (λ x. byte_at x n) e) ∙ byte_bit j n t s
