-- Chunks as bytes, and what is fed to a hasher.
use Rattle.std.proofs.Common.{◌≡◌, ℕ, ◌+◌, ◌*◌, ◌/◌, ◌%◌, ◌<◌, Bool, false, List, [], ◌++◌, length, get_or, map, eqb, sym, ap, ◌∙◌, inl, inr, arith}
use Rattle.std.specs.Int.{bit_at, div_ceil}
use Rattle.std.specs.List.{range_with_len}
use Rattle.std.proofs.Math.Nat.{mod-eq_of_lt}
use Rattle.std.proofs.lemmas.Nat.{mod_below, div-mul-add, mod-mul-add}
use Rattle.std.proofs.lemmas.List.{get_or_read, get_or_default, get_or_past}
use Rattle.std.proofs.lemmas.List.FromFn.{fill_by_all, length-map-range_with_len, get_or-map-range_with_len}
use Rattle.std.proofs.lemmas.Bool.{cases_lt}
use Rattle.bitmap_bytes.specs.Chunk.{chunk_bit, byte_of, chunk_of}
use Rattle.bitmap_bytes.specs.Bits.{chunks_bit, bits, IsChunkCount, IsZeroFrom, AreChunks, chunk_count}
use Rattle.bitmap_bytes.proofs.Chunks.Places.{IsChunkCount-ceil, count_unique}
use Rattle.bitmap_bytes.proofs.Chunks.Bits.{chunk_bit-mod, mod_parts}
use Rattle.bitmap_bytes.proofs.Lists.Bits.{get_or-bits, len_is}
use Rattle.bitmap_bytes.proofs.Bytes.Made.{byte_bit, byte_is, byte_same, digit_is}

-- a bit of a byte made from its bits
byte_of-bit : (f : ℕ → Bool) (t : ℕ) → t < 8 → eqb (bit_at (byte_of f) t) 1 ≡ f t
byte_of-bit f t h = ap (λ x. eqb x 1) (byte_bit f t h) ∙ digit_is (f t)

-- a bit of chunk q of the bits v
pub chunk_of-bit : (n : ℕ) (v : List Bool) (q i : ℕ) → 0 < n → chunk_bit n (chunk_of n v q) i ≡ get_or v (8 * n * q + i % (8 * n)) false
chunk_of-bit n v q i p =
    let j : i / 8 % n < n = mod_below (i / 8) n p in
    let m : 8 * n * q + 8 * (i / 8 % n) + i % 8 ≡ 8 * n * q + i % (8 * n) = omega (arith, mod_parts n i p) in
    let byte : ℕ → ℕ = λ y. byte_of (λ t. get_or v (8 * n * q + 8 * y + t) false) in
    ap (λ x. eqb (bit_at x (i % 8)) 1) (get_or-map-range_with_len byte 0 n (i / 8 % n) (i / 8 % n) 0 j (omega arith))
    ∙ byte_of-bit (λ t. get_or v (8 * n * q + 8 * (i / 8 % n) + t) false) (i % 8) (omega arith)
    ∙ ap (λ x. get_or v x false) m

pub length-chunk_of : (n : ℕ) (v : List Bool) (i : ℕ) → length (chunk_of n v i) ≡ n
length-chunk_of n v i = length-map-range_with_len (λ j. byte_of (λ t. get_or v (8 * n * i + 8 * j + t) false)) 0 n

-- a byte of a chunk by the chunk's bits
chunk_byte : (n : ℕ) (chunk : List ℕ) (j : ℕ) (f : ℕ → Bool) → j < n → get_or chunk j 0 < 256
    → ((t : ℕ) → t < 8 → chunk_bit n chunk (8 * j + t) ≡ f t)
    → get_or chunk j 0 ≡ byte_of f
chunk_byte n chunk j f s h e = sym (byte_is (get_or chunk j 0) h) ∙ byte_same (λ t. eqb (bit_at (get_or chunk j 0) t) 1) f (λ t w.
    let q : (8 * j + t) / 8 ≡ j = omega arith in
    let r : t ≡ (8 * j + t) % 8 = omega arith in
    let m : j ≡ (8 * j + t) / 8 % n = sym (ap (λ x. x % n) q ∙ mod-eq_of_lt {n = j} {m = n} s) in
    ap (λ x. eqb (bit_at (get_or chunk j 0) x) 1) r ∙ ap (λ x. eqb (bit_at (get_or chunk x 0) ((8 * j + t) % 8)) 1) m ∙ e t w)

-- a chunk of a bitmap's value v
pub chunk_is : (n : ℕ) (xs : List (List ℕ)) (len : ℕ) (v : List Bool) (i : ℕ) (c : List ℕ) → 0 < n → bits n xs len ≡ v
    → IsZeroFrom n xs len → i < length xs → c ≡ get_or xs i c → length c ≡ n → ((k : ℕ) → get_or c k 0 < 256)
    → c ≡ chunk_of n v i
chunk_is n xs len v i c p e z s r l h =
    let bit : ℕ → ℕ → Bool = λ j t. get_or v (8 * n * i + 8 * j + t) false in
    fill_by_all (λ j. byte_of (bit j)) c n 0 l (λ j w. chunk_byte n c j (bit j) w (h j) (λ t u.
    let at : 8 * j + t < 8 * n = omega arith in
    let m : 8 * n * i + 8 * j + t ≡ i * (8 * n) + (8 * j + t) = grind arith in
    let q : (8 * n * i + 8 * j + t) / (8 * n) ≡ i = ap (λ x. x / (8 * n)) m ∙ div-mul-add i (8 * n) (8 * j + t) at in
    let y : (8 * j + t) % (8 * n) ≡ (8 * n * i + 8 * j + t) % (8 * n) =
    mod-eq_of_lt {n = 8 * j + t} {m = 8 * n} at
    ∙ sym (ap (λ x. x % (8 * n)) m ∙ mod-mul-add i (8 * n) (8 * j + t) at) in
    let b : chunk_bit n c (8 * j + t) ≡ chunks_bit n xs (8 * n * i + 8 * j + t) =
    chunk_bit-mod n c (8 * j + t) (8 * n * i + 8 * j + t) p y
    ∙ ap (λ x. chunk_bit n x (8 * n * i + 8 * j + t)) (get_or_read xs i c s r [] ∙ ap (λ x. get_or xs x []) (sym q)) in
    b ∙ elim (cases_lt (8 * n * i + 8 * j + t) len) [
      | inl o ↦ sym (get_or-bits n xs len (8 * n * i + 8 * j + t) false o) ∙ ap (λ x. get_or x (8 * n * i + 8 * j + t) false) e
      | inr o ↦ z (8 * n * i + 8 * j + t) o ∙ sym (get_or_past v (8 * n * i + 8 * j + t) false (omega (arith, len_is n xs len v e)))
    ]))

-- the chunks of a bitmap are those of its bits
pub chunks_are : (n : ℕ) (xs : List (List ℕ)) (len : ℕ) (v : List Bool) → 0 < n → IsChunkCount n (length xs) len
    → IsZeroFrom n xs len → bits n xs len ≡ v → AreChunks n xs
    → xs ≡ map (chunk_of n v) (range_with_len 0 (div_ceil (length v) (8 * n)))
chunks_are n xs len v p k z e h =
    let q : length xs ≡ div_ceil (length v) (8 * n) =
    count_unique n (length xs) (div_ceil len (8 * n)) len k (IsChunkCount-ceil n len p)
    ∙ ap (λ x. div_ceil x (8 * n)) (sym (len_is n xs len v e)) in
    fill_by_all (chunk_of n v) xs (div_ceil (length v) (8 * n)) [] q (λ i s.
    let t : i < length xs = omega arith in
    chunk_is n xs len v i (get_or xs i []) p e z t (get_or_default xs i [] (get_or xs i []) t) (h i t).len (h i t).bytes)

-- chunks in two slices
pub slices_are : (n : ℕ) (xs a b : List (List ℕ)) (len : ℕ) (v : List Bool) → 0 < n → IsChunkCount n (length xs) len → IsZeroFrom n xs len
    → bits n xs len ≡ v → AreChunks n xs → a ++ b ≡ xs
    → a ++ b ≡ map (chunk_of n v) (range_with_len 0 (chunk_count n (length v)))
slices_are n xs a b len v p c z e known items = items ∙ chunks_are n xs len v p c z e known
