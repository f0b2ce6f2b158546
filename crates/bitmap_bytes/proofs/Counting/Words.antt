-- The bits of bytes, and of the words that they make.
use Rattle.std.proofs.Common.{◌≡◌, ℕ, suc, zero, count_ones, ◌+◌, ◌-◌, ◌*◌, ◌/◌, ◌%◌, ◌^◌, ◌<◌, ◌≤◌, List, get_or, take, drop, eqb, false, not, length, [], sym, ap, ◌∙◌, refl, w64, arith}
use Rattle.std.specs.Int.{bit_at, from_le_bytes}
use Rattle.std.specs.List.{count_by, list_all, slice_range}
use Rattle.std.specs.Simd.{first_chunks}
use Rattle.std.proofs.Math.Nat.{mod-eq_of_lt, mul-add}
use Rattle.std.proofs.lemmas.List.{get_or_default, get_or-drop, drop-drop}
use Rattle.std.proofs.lemmas.List.FromFn.{length-map-range_with_len, get_or-map-range_with_len}
use Rattle.bitmap_bytes.specs.Chunk.{chunk_bit, chunk_bits, bytes_bit}
use Rattle.bitmap_bytes.specs.Bits.{chunks_bit}
use Rattle.bitmap_bytes.proofs.Chunks.Bits.{chunk_bit-mod}
use Rattle.bitmap_bytes.proofs.Counting.Ones.{ones_from, ones_from_same}
use Rattle.bitmap_bytes.proofs.Words.OfBytes.{word_bit}
use Rattle.bitmap_bytes.proofs.Counting.Places.{none_map, count_map, none_slice, found, more_ones, ones_of_zero, ones_of_other}

chunk_bit-within : (n : ℕ) (c : List ℕ) (i : ℕ) → i < 8 * n → chunk_bit n c i ≡ bytes_bit c i
chunk_bit-within n c i h = ap (λ k. eqb (bit_at (get_or c k 0) (i % 8)) 1) (mod-eq_of_lt {n = i / 8} {m = n} (omega arith))

ones_from_chunk : (n : ℕ) (c : List ℕ) → ones_from (chunk_bit n c) 0 (8 * n) ≡ ones_from (bytes_bit c) 0 (8 * n)
ones_from_chunk n c = ones_from_same (chunk_bit n c) (bytes_bit c) 0 0 (8 * n) (λ t h. chunk_bit-within n c (0 + t) (omega arith))

pub count-chunk : (n : ℕ) (c : List ℕ) → count_by (λ b. b) (chunk_bits n c) ≡ ones_from (bytes_bit c) 0 (8 * n)
count-chunk n c = count_map (chunk_bit n c) 0 (8 * n) ∙ ones_from_chunk n c

pub none_chunk : (n : ℕ) (c : List ℕ) → list_all not (chunk_bits n c) ≡ eqb (ones_from (bytes_bit c) 0 (8 * n)) 0
none_chunk n c = none_map (chunk_bit n c) 0 (8 * n) ∙ ap (λ x. eqb x 0) (ones_from_chunk n c)

pub none_chunk_slice : (n : ℕ) (c : List ℕ) (a b : ℕ) → b ≤ 8 * n
    → list_all not (slice_range (chunk_bits n c) a b) ≡ eqb (ones_from (bytes_bit c) a (b - a)) 0
none_chunk_slice n c a b h =
    let l = length-map-range_with_len (chunk_bit n c) 0 (8 * n) in
    none_slice (chunk_bits n c) (bytes_bit c) a b (omega arith) (λ i s.
    get_or-map-range_with_len (chunk_bit n c) 0 (8 * n) i i false (omega arith) (omega arith)
    ∙ chunk_bit-within n c i (omega arith))

-- bit t of byte j
pub bytes_bit-at : (bytes : List ℕ) (j t : ℕ) → t < 8 → bytes_bit bytes (8 * j + t) ≡ eqb (bit_at (get_or bytes j 0) t) 1
bytes_bit-at bytes j t h =
    let q : (8 * j + t) / 8 ≡ j = omega arith in
    let r : (8 * j + t) % 8 ≡ t = omega arith in
    ap (λ x. eqb (bit_at (get_or bytes x 0) ((8 * j + t) % 8)) 1) q ∙ ap (λ x. eqb (bit_at (get_or bytes j 0) x) 1) r

-- one more byte counted
pub more_byte : (bytes : List ℕ) (j b total : ℕ) → get_or bytes j 0 ≡ b → b < 256 → total ≡ ones_from (bytes_bit bytes) 0 (8 * j)
    → total + count_ones b ≡ ones_from (bytes_bit bytes) 0 (8 * (j + 1))
more_byte bytes j b total e h s =
    let m : 8 * j + 8 ≡ 8 * (j + 1) = omega arith in
    ap (λ x. x + count_ones b) s
    ∙ more_ones (bytes_bit bytes) b (8 * j) 8 h (λ t l. sym (bytes_bit-at bytes j t l ∙ ap (λ x. eqb (bit_at x t) 1) e))
    ∙ ap (λ x. ones_from (bytes_bit bytes) 0 x) m

-- one more word counted
pub more_word : (words : List (List ℕ)) (j : ℕ) (d : List ℕ) (w total : ℕ) → j < length words → w < 2 ^ 64
    → ((t : ℕ) → t < 64 → eqb (bit_at w t) 1 ≡ chunk_bit 8 (get_or words j d) t) → total ≡ ones_from (chunks_bit 8 words) 0 (64 * j)
    → total + count_ones w ≡ ones_from (chunks_bit 8 words) 0 (64 * (j + 1))
more_word words j d w total i h f s =
    let m : 64 * j + 64 ≡ 64 * (j + 1) = omega arith in
    ap (λ x. x + count_ones w) s ∙ more_ones (chunks_bit 8 words) w (64 * j) 64 h (λ t l.
    let q : j ≡ (64 * j + t) / 64 = omega arith in
    let r : t % 64 ≡ (64 * j + t) % 64 = omega arith in
    f t l
    ∙ chunk_bit-mod 8 (get_or words j d) t (64 * j + t) (omega arith) r
    ∙ ap (λ x. chunk_bit 8 x (64 * j + t))
    (get_or_default words j d [] i ∙ ap (λ x. get_or words x []) q)) ∙ ap (λ x. ones_from (chunks_bit 8 words) 0 x) m

-- after a byte of zeros there is still no set bit
pub zero_byte : (bytes : List ℕ) (j : ℕ) → get_or bytes j 0 ≡ 0 → ones_from (bytes_bit bytes) 0 (8 * j) ≡ 0
    → ones_from (bytes_bit bytes) 0 (8 * (j + 1)) ≡ 0
zero_byte bytes j e s = let m = more_byte bytes j 0 0 e (omega arith) (sym s) in let o = ones_of_zero 0 refl in omega arith

-- any other byte has a set bit
pub other_byte : (bytes : List ℕ) (j : ℕ) → j < length bytes → get_or bytes j 0 < 256 → (get_or bytes j 0 ≡ 0 → ⊥)
    → ones_from (bytes_bit bytes) 0 (8 * j) ≡ 0
    → list_all not (chunk_bits (length bytes) bytes) ≡ false
other_byte bytes j l h e s =
    let m = more_byte bytes j (get_or bytes j 0) 0 refl h (sym s) in
    let o = ones_of_other (get_or bytes j 0) e in
    none_chunk (length bytes) bytes ∙ found (bytes_bit bytes) (8 * (j + 1)) (8 * length bytes) (omega arith) (omega arith)

-- ---- eight bytes as a word

-- bit t of a word that is read from eight bytes, as the bit of a chunk
pub word_chunk_bit : (bytes : List ℕ) (t : ℕ) → ((i : ℕ) → get_or bytes i 0 < 256) → t < 64
    → eqb (bit_at (from_le_bytes w64 bytes) t) 1 ≡ chunk_bit 8 bytes t
word_chunk_bit bytes t h s =
    let m : t / 8 ≡ t / 8 % 8 = omega arith in
    ap (λ x. eqb x 1) (word_bit bytes t h s) ∙ ap (λ x. eqb (bit_at (get_or bytes x 0) (t % 8)) 1) m

-- ---- bytes as words and a rest

pub get_or-first_chunks : (n k : ℕ) (xs : List ℕ) (i : ℕ) → i < k → get_or (first_chunks n k xs) i [] ≡ take n (drop (n * i) xs)
get_or-first_chunks n zero xs i s = absurd (omega arith)
get_or-first_chunks n (suc k) xs zero s = ap (λ a. take n (drop a xs)) (let e : 0 ≡ n * 0 = omega arith in e)
get_or-first_chunks n (suc k) xs (suc i) s =
    let e : n + n * i ≡ n * suc i = omega (arith, mul-add n i 1) in
    get_or-first_chunks n k (drop n xs) i (omega arith) ∙ ap (take n) (drop-drop (n * i) n xs ∙ ap (λ a. drop a xs) e)

-- the bits from byte k on
pub bytes_bit-drop : (k : ℕ) (xs : List ℕ) (t : ℕ) → bytes_bit (drop k xs) t ≡ bytes_bit xs (8 * k + t)
bytes_bit-drop k xs t =
    let q : k + t / 8 ≡ (8 * k + t) / 8 = omega arith in
    let r : t % 8 ≡ (8 * k + t) % 8 = omega arith in
    ap (λ b. eqb (bit_at b (t % 8)) 1) (get_or-drop k xs (t / 8) 0)
    ∙ ap (λ x. eqb (bit_at (get_or xs x 0) (t % 8)) 1) q
    ∙ ap (λ x. eqb (bit_at (get_or xs ((8 * k + t) / 8) 0) x) 1) r
