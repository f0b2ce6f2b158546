-- Whether a function of two bits gives true at no position of two lists of bytes.
use Rattle.std.proofs.Common.{◌≡◌, ℕ, ◌+◌, ◌-◌, ◌*◌, ◌/◌, ◌%◌, ◌<◌, ◌≤◌, Bool, true, false, List, [], ◌++◌, length, get_or, drop, replicate, eqb, refl, sym, ap, ◌∙◌, inl, inr, arith}
use Rattle.std.specs.Bool.{Decides}
use Rattle.std.specs.Int.{bit_at}
use Rattle.std.specs.Simd.{first_chunks}
use Rattle.std.proofs.Math.Nat.{div-add-mod}
use Rattle.std.proofs.lemmas.Nat.{mul-le}
use Rattle.std.proofs.lemmas.Nat.Bits.{bit_at-lt, same_from_bits_below}
use Rattle.std.proofs.lemmas.List.{get_or_past}
use Rattle.std.proofs.lemmas.Bool.{cases_lt, false≢true}
use Rattle.bitmap_bytes.specs.Chunk.{bytes_bit, chunk_bit, IsChunk}
use Rattle.bitmap_bytes.specs.Bits.{chunks_bit}
use Rattle.bitmap_bytes.proofs.Bytes.Bits.{bit_same, bit_of_zero_byte}
use Rattle.bitmap_bytes.proofs.Bytes.Shifted.{bytes_bit-left, bytes_bit-right}
use Rattle.bitmap_bytes.proofs.Chunks.Lists.{bit_of_past}
use Rattle.bitmap_bytes.proofs.Chunks.OfBytes.{chunks_bit-first_chunks}
use Rattle.bitmap_bytes.proofs.Counting.Blocks.{block_bit, zero_bit, zeros_from_bits}
use Rattle.bitmap_bytes.proofs.Counting.Words.{bytes_bit-at, bytes_bit-drop}

-- f gives true at no position of two runs of bits
abbrev pub GivesNone : (Bool → Bool → Bool) → (ℕ → Bool) → (ℕ → Bool) → Type 0
GivesNone f g h = (i : ℕ) → f (g i) (h i) ≡ false

-- a position that decides
pub decided_no : (P : Type 0) → (P → ⊥) → Decides false P
decided_no P h = (λ q. absurd (false≢true q), λ x. absurd (h x))

-- ---- bytes as blocks and a rest

module _ (n : ℕ) (f : Bool → Bool → Bool) (xs ys : List ℕ) (bs cs : List (List ℕ)) (rs ss : List ℕ) (p : 0 < n) (zeros : f false false ≡ false) (same : length xs ≡ length ys)
    (b : bs ≡ first_chunks n (length xs / n) xs) (c : cs ≡ first_chunks n (length ys / n) ys)
    (r : rs ≡ drop (length xs / n * n) xs) (s : ss ≡ drop (length ys / n * n) ys)
    (lb : length bs ≡ length xs / n) (lc : length cs ≡ length ys / n) where
  counts : length ys / n ≡ length xs / n
  counts = ap (λ k. k / n) (sym same)

  at_block : (i : ℕ) → i / (8 * n) < length xs / n → f (chunks_bit n bs i) (chunks_bit n cs i) ≡ f (bytes_bit xs i) (bytes_bit ys i)
  at_block i h =
      ap (λ k. f k (chunks_bit n cs i)) (ap (λ k. chunks_bit n k i) b ∙ chunks_bit-first_chunks n (length xs / n) xs i p h)
      ∙ ap (λ k. f (bytes_bit xs i) k) (ap (λ k. chunks_bit n k i) c ∙ chunks_bit-first_chunks n (length ys / n) ys i p (omega (arith, counts)))

  at_rest : (i : ℕ) → f (bytes_bit rs i) (bytes_bit ss i) ≡ f (bytes_bit xs (8 * (length xs / n * n) + i)) (bytes_bit ys (8 * (length xs / n * n) + i))
  at_rest i =
      ap (λ k. f k (bytes_bit ss i)) (ap (λ k. bytes_bit k i) r ∙ bytes_bit-drop (length xs / n * n) xs i)
      ∙ ap (λ k. f (bytes_bit xs (8 * (length xs / n * n) + i)) k)
      (ap (λ k. bytes_bit k i) s ∙ bytes_bit-drop (length ys / n * n) ys i ∙ ap (λ k. bytes_bit ys (8 * (k * n) + i)) counts)

  past_blocks : (i : ℕ) → length xs / n ≤ i / (8 * n) → 8 * (length xs / n * n) ≤ i
  past_blocks i h =
      let e : 8 * (length xs / n * n) ≡ 8 * n * (length xs / n) = grind arith in
      omega (arith, e, div-add-mod i (8 * n), mul-le (8 * n) (length xs / n) (8 * n) (i / (8 * n)) (omega arith) h)

  whole_none : GivesNone f (chunks_bit n bs) (chunks_bit n cs) → GivesNone f (bytes_bit rs) (bytes_bit ss) → GivesNone f (bytes_bit xs) (bytes_bit ys)
  whole_none h k i = elim (cases_lt (i / (8 * n)) (length xs / n)) [
    | inl u ↦ sym (at_block i u) ∙ h i
    | inr u ↦
        let w = past_blocks i u in
        let e : i ≡ 8 * (length xs / n * n) + (i - 8 * (length xs / n * n)) = omega arith in
        ap (λ m. f (bytes_bit xs m) (bytes_bit ys m)) e ∙ sym (at_rest (i - 8 * (length xs / n * n))) ∙ k (i - 8 * (length xs / n * n))
  ]

  blocks_none : GivesNone f (bytes_bit xs) (bytes_bit ys) → GivesNone f (chunks_bit n bs) (chunks_bit n cs)
  blocks_none h i = elim (cases_lt (i / (8 * n)) (length xs / n)) [
    | inl u ↦ at_block i u ∙ h i
    | inr u ↦
        ap (λ k. f k (chunks_bit n cs i)) (bit_of_past n bs i (omega (arith, lb)))
        ∙ ap (λ k. f false k) (bit_of_past n cs i (omega (arith, lc, counts)))
        ∙ zeros
  ]

  rest_none : GivesNone f (bytes_bit xs) (bytes_bit ys) → GivesNone f (bytes_bit rs) (bytes_bit ss)
  rest_none h i = at_rest i ∙ h (8 * (length xs / n * n) + i)

  -- if the blocks have no such position, the rest decides
  pub rest_decides : (q d : Bool) → Decides q (GivesNone f (chunks_bit n bs) (chunks_bit n cs)) → q ≡ true
      → Decides d (GivesNone f (bytes_bit rs) (bytes_bit ss))
      → Decides d (GivesNone f (bytes_bit xs) (bytes_bit ys))
  rest_decides q d h t k = (λ e. whole_none (h.0 t) (k.0 e), λ e. k.1 (rest_none e))

  -- if the blocks have such a position, they decide
  pub blocks_decide : (q : Bool) → Decides q (GivesNone f (chunks_bit n bs) (chunks_bit n cs)) → q ≡ false
      → Decides q (GivesNone f (bytes_bit xs) (bytes_bit ys))
  blocks_decide q h t = (λ e. absurd (false≢true (sym t ∙ e)), λ e. h.1 (blocks_none e))

-- ---- one block, and one byte

-- the two blocks at an index, combined, are zero if and only if f gives true at no position of theirs
module _ (n : ℕ) (f : Bool → Bool → Bool) (xs ys : List (List ℕ)) (i : ℕ) (both : List ℕ) (p : 0 < n)
    (is : (t : ℕ) → chunk_bit n both t ≡ f (chunk_bit n (get_or xs i []) t) (chunk_bit n (get_or ys i []) t)) where
  pub zero_gives_none : both ≡ replicate n 0 → (t : ℕ) → f (chunk_bit n (get_or xs i []) t) (chunk_bit n (get_or ys i []) t) ≡ false
  zero_gives_none z t = sym (is t) ∙ ap (λ k. chunk_bit n k t) z ∙ zero_bit n t p

  pub none_gives_zero : IsChunk n both → GivesNone f (chunks_bit n xs) (chunks_bit n ys) → both ≡ replicate n 0
  none_gives_zero c h =
      zeros_from_bits n both p c (λ t s.
      is t
      ∙ ap (λ k. f k (chunk_bit n (get_or ys i []) t)) (sym (block_bit n xs i t p s))
      ∙ ap (λ k. f (chunks_bit n xs (8 * n * i + t)) k) (sym (block_bit n ys i t p s))
      ∙ h (8 * n * i + t))

-- two lists of blocks of which each pair gives none
pub blocks_all : (n : ℕ) (f : Bool → Bool → Bool) (xs ys : List (List ℕ)) (k : ℕ) → f false false ≡ false → length xs ≡ length ys → length xs ≤ k
    → ((i : ℕ) → i < k → (t : ℕ) → f (chunk_bit n (get_or xs i []) t) (chunk_bit n (get_or ys i []) t) ≡ false)
    → GivesNone f (chunks_bit n xs) (chunks_bit n ys)
blocks_all n f xs ys k zeros same all h i = elim (cases_lt (i / (8 * n)) (length xs)) [
  | inl u ↦ h (i / (8 * n)) (omega arith) i
  | inr u ↦
      ap (λ k. f k (chunks_bit n ys i)) (bit_of_past n xs i u)
      ∙ ap (λ k. f false k) (bit_of_past n ys i (omega arith))
      ∙ zeros
]

-- a byte without a set bit is zero
byte_zero : (b : ℕ) → b < 256 → ((t : ℕ) → t < 8 → eqb (bit_at b t) 1 ≡ false) → b ≡ 0
byte_zero b h e =
    same_from_bits_below 8 b 0 h (omega arith) (λ t s.
    bit_same (bit_at b t) (bit_at 0 t) (bit_at-lt b t) (bit_at-lt 0 t) (e t s ∙ sym (bit_of_zero_byte 0 t refl)))

-- the two bytes at an index, combined, are zero if f gives true at no position
pub none_gives_zero_byte : (f : Bool → Bool → Bool) (xs ys : List ℕ) (i b : ℕ) → b < 256
    → ((t : ℕ) → eqb (bit_at b t) 1 ≡ f (eqb (bit_at (get_or xs i 0) t) 1) (eqb (bit_at (get_or ys i 0) t) 1))
    → GivesNone f (bytes_bit xs) (bytes_bit ys)
    → b ≡ 0
none_gives_zero_byte f xs ys i b s is h =
    byte_zero b s (λ t u.
    is t
    ∙ ap (λ k. f k (eqb (bit_at (get_or ys i 0) t) 1)) (sym (bytes_bit-at xs i t u))
    ∙ ap (λ k. f (bytes_bit xs (8 * i + t)) k) (sym (bytes_bit-at ys i t u))
    ∙ h (8 * i + t))

-- ---- runs of bytes, one after another

past_bytes : (xs : List ℕ) (i : ℕ) → length xs ≤ i / 8 → bytes_bit xs i ≡ false
past_bytes xs i h = ap (λ b. eqb (bit_at b (i % 8)) 1) (get_or_past xs (i / 8) 0 h) ∙ bit_of_zero_byte 0 (i % 8) refl

-- xs followed by zs, beside ys followed by ws; xs and ys have the same length
module _ (f : Bool → Bool → Bool) (xs zs ys ws : List ℕ) (zeros : f false false ≡ false) (same : length xs ≡ length ys) where
  at_left : (i : ℕ) → i / 8 < length xs → f (bytes_bit (xs ++ zs) i) (bytes_bit (ys ++ ws) i) ≡ f (bytes_bit xs i) (bytes_bit ys i)
  at_left i u =
      ap (λ b. f b (bytes_bit (ys ++ ws) i)) (bytes_bit-left xs zs i u)
      ∙ ap (λ b. f (bytes_bit xs i) b) (bytes_bit-left ys ws i (omega (arith, same)))

  at_right : (i : ℕ) → f (bytes_bit (xs ++ zs) (8 * length xs + i)) (bytes_bit (ys ++ ws) (8 * length xs + i)) ≡ f (bytes_bit zs i) (bytes_bit ws i)
  at_right i =
      ap (λ b. f b (bytes_bit (ys ++ ws) (8 * length xs + i))) (bytes_bit-right xs zs i)
      ∙ ap (λ b. f (bytes_bit zs i) b) (ap (λ m. bytes_bit (ys ++ ws) (8 * m + i)) same ∙ bytes_bit-right ys ws i)

  joined_none : GivesNone f (bytes_bit xs) (bytes_bit ys) → GivesNone f (bytes_bit zs) (bytes_bit ws) → GivesNone f (bytes_bit (xs ++ zs)) (bytes_bit (ys ++ ws))
  joined_none h k i = elim (cases_lt (i / 8) (length xs)) [
    | inl u ↦ at_left i u ∙ h i
    | inr u ↦
        let e : i ≡ 8 * length xs + (i - 8 * length xs) = omega arith in
        ap (λ j. f (bytes_bit (xs ++ zs) j) (bytes_bit (ys ++ ws) j)) e ∙ at_right (i - 8 * length xs) ∙ k (i - 8 * length xs)
  ]

  left_none : GivesNone f (bytes_bit (xs ++ zs)) (bytes_bit (ys ++ ws)) → GivesNone f (bytes_bit xs) (bytes_bit ys)
  left_none h i = elim (cases_lt (i / 8) (length xs)) [
    | inl u ↦ sym (at_left i u) ∙ h i
    | inr u ↦ ap (λ b. f b (bytes_bit ys i)) (past_bytes xs i u) ∙ ap (λ b. f false b) (past_bytes ys i (omega (arith, same))) ∙ zeros
  ]

  right_none : GivesNone f (bytes_bit (xs ++ zs)) (bytes_bit (ys ++ ws)) → GivesNone f (bytes_bit zs) (bytes_bit ws)
  right_none h i = sym (at_right i) ∙ h (8 * length xs + i)

  -- if the first runs have no such position, the others decide
  pub right_decides : (q d : Bool) → Decides q (GivesNone f (bytes_bit xs) (bytes_bit ys)) → q ≡ true
      → Decides d (GivesNone f (bytes_bit zs) (bytes_bit ws))
      → Decides d (GivesNone f (bytes_bit (xs ++ zs)) (bytes_bit (ys ++ ws)))
  right_decides q d h t k = (λ e. joined_none (h.0 t) (k.0 e), λ e. k.1 (right_none e))

  -- if the first runs have such a position, they decide
  pub left_decides : (q : Bool) → Decides q (GivesNone f (bytes_bit xs) (bytes_bit ys)) → q ≡ false
      → Decides q (GivesNone f (bytes_bit (xs ++ zs)) (bytes_bit (ys ++ ws)))
  left_decides q h t = (λ e. absurd (false≢true (sym t ∙ e)), λ e. h.1 (left_none e))
