-- Bytes, as chunks.
use Rattle.std.proofs.Common.{◌≡◌, ℕ, zero, suc, ◌+◌, ◌-◌, ◌*◌, ◌/◌, ◌%◌, ◌<◌, Bool, false, List, [], ◌∷◌, ◌++◌, length, get_or, take, drop, map, eqb, refl, sym, ap, ◌∙◌, arith}
use Rattle.std.specs.List.{range_with_len, flat_map, list_any}
use Rattle.std.specs.Int.{bit_at}
use Rattle.std.specs.Simd.{first_chunks}
use Rattle.std.proofs.Math.Nat.{mod-eq_of_lt, div-add-mod, div-lt_iff_lt-mul, mul-add, div-div-eq-div-mul}
use Rattle.std.proofs.lemmas.Nat.{mod_below, div-mul-add, mod-mul-add}
use Rattle.std.proofs.lemmas.List.{get_or-take, get_or-drop, get_or_read, length-drop, take-append-drop}
use Rattle.std.proofs.lemmas.List.FromFn.{length-range_with_len, length-map-range_with_len, get_or-map-range_with_len}
use Rattle.std.proofs.lemmas.List.Folds.{flat_map-map}
use Rattle.bitmap_bytes.specs.Chunk.{chunk_bit, chunk_of, bytes_bit}
use Rattle.bitmap_bytes.specs.Bits.{chunks_bit, IsChunkCount}
use Rattle.bitmap_bytes.proofs.Chunks.Places.{full_len, open_last}
use Rattle.bitmap_bytes.proofs.Chunks.Bits.{chunk_bit-mod}
use Rattle.bitmap_bytes.proofs.Chunks.AsBytes.{chunk_of-bit, length-chunk_of}
use Rattle.bitmap_bytes.proofs.Counting.Words.{get_or-first_chunks}
use Rattle.bitmap_bytes.proofs.Chunks.Concatenated.{length-pieces}
use Rattle.bitmap_bytes.proofs.Counting.Tests.{any_range-moved}
use Rattle.bitmap_bytes.proofs.Bytes.Shifted.{bytes_bit-flat, bytes_bit-left}

-- ---- bytes cut into chunks

pub length-first_chunks : (n k : ℕ) (xs : List ℕ) → length (first_chunks n k xs) ≡ k
length-first_chunks n zero xs = refl
length-first_chunks n (suc k) xs = ap suc (length-first_chunks n k (drop n xs))

pub first_chunks-all : (n k : ℕ) (xs : List ℕ) → length xs ≡ n * k → flat_map (λ x. x) (first_chunks n k xs) ≡ xs
first_chunks-all n zero [] l = refl
first_chunks-all n zero (x ∷ xs) l = absurd (omega arith)
first_chunks-all n (suc k) xs l =
    ap (λ t. take n xs ++ t) (first_chunks-all n k (drop n xs) (omega (arith, length-drop n xs, mul-add n k 1))) ∙ take-append-drop n xs

-- the byte of bit i
byte_place : (n i : ℕ) → 0 < n → n * (i / (8 * n)) + i / 8 % n ≡ i / 8
byte_place n i p = ap (λ q. n * q + i / 8 % n) (sym (div-div-eq-div-mul i 8 n)) ∙ div-add-mod (i / 8) n

-- bit i of chunks of bytes is bit i of the bytes
pub chunks_bit-first_chunks : (n k : ℕ) (xs : List ℕ) (i : ℕ) → 0 < n → i / (8 * n) < k → chunks_bit n (first_chunks n k xs) i ≡ bytes_bit xs i
chunks_bit-first_chunks n k xs i p h =
    ap (λ c. chunk_bit n c i) (get_or-first_chunks n k xs (i / (8 * n)) h)
    ∙ ap (λ b. eqb (bit_at b (i % 8)) 1) (get_or-take n (drop (n * (i / (8 * n))) xs) (i / 8 % n) 0 (mod_below (i / 8) n p))
    ∙ ap (λ b. eqb (bit_at b (i % 8)) 1) (get_or-drop (n * (i / (8 * n))) xs (i / 8 % n) 0)
    ∙ ap (λ a. eqb (bit_at (get_or xs a 0) (i % 8)) 1) (byte_place n i p)

-- the number of bytes of k chunks
pub chunks-exact : (n k : ℕ) (xs : List ℕ) → 0 < n → length xs ≡ n * k → first_chunks n (length xs / n) xs ≡ first_chunks n k xs
chunks-exact n k xs p l =
    let e : length xs ≡ k * n + 0 = grind arith in
    ap (λ m. first_chunks n m xs) (ap (λ x. x / n) e ∙ div-mul-add k n 0 p)

-- ---- chunks of bits, as bytes

pub length-range_pieces : (n : ℕ) (f : ℕ → List ℕ) (a k : ℕ) → ((i : ℕ) → length (f i) ≡ n) → length (flat_map f (range_with_len a k)) ≡ n * k
length-range_pieces n f a k h = length-pieces f n (range_with_len a k) h ∙ ap (λ m. n * m) (length-range_with_len a k)

-- bit i of the bytes of the chunks is bit i of the list, or zero past its end
pub bytes_bit-chunks : (n : ℕ) (v : List Bool) (k i : ℕ) (rest : List ℕ) → 0 < n → i < 8 * (n * k)
    → bytes_bit (flat_map (chunk_of n v) (range_with_len 0 k) ++ rest) i ≡ get_or v i false
bytes_bit-chunks n v k i rest p h =
    let xs : List (List ℕ) = map (chunk_of n v) (range_with_len 0 k) in
    let flat : flat_map (λ x. x) (map (chunk_of n v) (range_with_len 0 k)) ≡ flat_map (chunk_of n v) (range_with_len 0 k) =
    flat_map-map (λ x. x) (chunk_of n v) (range_with_len 0 k) in
    let c : i / (8 * n) < k = (div-lt_iff_lt-mul {k = 8 * n} {x = i} {y = k} (omega arith)).1 (grind arith) in
    let m = length-map-range_with_len (chunk_of n v) 0 k in
    let wide : (j : ℕ) → j < length xs → length (get_or xs j []) ≡ n =
    λ j s. ap length (get_or-map-range_with_len (chunk_of n v) 0 k j j [] (omega arith) (omega arith))
    ∙ length-chunk_of n v j in
    bytes_bit-left (flat_map (chunk_of n v) (range_with_len 0 k)) rest i (omega (arith, length-range_pieces n (chunk_of n v) 0 k (length-chunk_of n v)))
    ∙ ap (λ x. bytes_bit x i) (sym flat) ∙ bytes_bit-flat n xs p wide i
    ∙ ap (λ x. chunk_bit n x i) (get_or-map-range_with_len (chunk_of n v) 0 k (i / (8 * n)) (i / (8 * n)) [] c (omega arith))
    ∙ chunk_of-bit n v (i / (8 * n)) i p ∙ ap (λ x. get_or v x false) (div-add-mod i (8 * n))

-- ---- bits past a length

-- the bits past the length are those of the last chunk, if the length ends inside it
pub past_chunk : (n len : ℕ) (xs : List (List ℕ)) (c : List ℕ) → 0 < n → IsChunkCount n (length xs) len
    → (len % (8 * n) ≡ 0 → ⊥)
    → c ≡ get_or xs (len / (8 * n)) c
    → list_any (chunk_bit n c) (range_with_len (len % (8 * n)) (8 * n - len % (8 * n)))
    ≡ list_any (chunks_bit n xs) (range_with_len len (8 * n * length xs - len))
past_chunk n len xs c p k d r =
    let l : length xs ≡ len / (8 * n) + 1 = open_last n (length xs) len p k d in
    let t = div-add-mod len (8 * n) in
    let z = mod_below len (8 * n) (omega arith) in
    let m : 8 * n * length xs - len ≡ 8 * n - len % (8 * n) = omega (arith, ap (λ x. 8 * n * x) l, mul-add (8 * n) (len / (8 * n)) 1) in
    any_range-moved (chunk_bit n c) (chunks_bit n xs) (len % (8 * n)) len (8 * n - len % (8 * n)) (λ j s.
    let w : len % (8 * n) + j < 8 * n = omega arith in
    let e : len + j ≡ len / (8 * n) * (8 * n) + (len % (8 * n) + j) = grind arith in
    let q : (len + j) / (8 * n) ≡ len / (8 * n) = ap (λ x. x / (8 * n)) e ∙ div-mul-add (len / (8 * n)) (8 * n) (len % (8 * n) + j) w in
    let u : (len % (8 * n) + j) % (8 * n) ≡ (len + j) % (8 * n) =
    mod-eq_of_lt {n = len % (8 * n) + j} {m = 8 * n} w
    ∙ sym (ap (λ x. x % (8 * n)) e ∙ mod-mul-add (len / (8 * n)) (8 * n) (len % (8 * n) + j) w) in
    chunk_bit-mod n c (len % (8 * n) + j) (len + j) p u
    ∙ ap (λ x. chunk_bit n x (len + j)) (get_or_read xs (len / (8 * n)) c (omega arith) r [] ∙ ap (λ x. get_or xs x []) (sym q)))
    ∙ ap (λ x. list_any (chunks_bit n xs) (range_with_len len x)) (sym m)

-- there are none, if the length ends with a chunk
pub past_full : (n len : ℕ) (xs : List (List ℕ)) → 0 < n → IsChunkCount n (length xs) len → len % (8 * n) ≡ 0
    → false ≡ list_any (chunks_bit n xs) (range_with_len len (8 * n * length xs - len))
past_full n len xs p k e =
    let z : 8 * n * length xs - len ≡ 0 = omega (arith, full_len n (length xs) len p k e) in
    sym (ap (λ m. list_any (chunks_bit n xs) (range_with_len len m)) z)
