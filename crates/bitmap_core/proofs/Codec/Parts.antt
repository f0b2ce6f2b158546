-- The parts that a read finds in its input, and what a write appends.
use Rattle.std.proofs.Common.{◌≡◌, ℕ, ◌+◌, ◌-◌, ◌*◌, ◌^◌, ◌<◌, ◌≤◌, Bool, true, List, ◌++◌, length, take, drop, map, refl, sym, ap, ◌∙◌, append_assoc, arith, Some, None}
use Rattle.std.specs.List.{range_with_len, flat_map, list_any}
use Rattle.std.specs.Int.{w64, to_be_bytes}
use Rattle.std.specs.Simd.{first_chunks}
use Rattle.std.specs.Prelude.{codes}
use Rattle.std.proofs.Math.Nat.{mul-add}
use Rattle.std.proofs.lemmas.Bool.{le-ltb, lt-ltb}
use Rattle.std.proofs.lemmas.List.{length-append, length-drop, drop-drop}
use Rattle.std.proofs.lemmas.List.FromFn.{length-map-range_with_len}
use Rattle.std.proofs.lemmas.List.Folds.{flat_map-map}
use Rattle.std.proofs.lemmas.List.Concat.{flat_map-append}
use Rattle.bitmap_bytes.specs.Chunk.{bytes_bit, chunk_of}
use Rattle.bitmap_bytes.specs.Bits.{chunks_bit, bits, IsChunkCount, IsZeroFrom, chunk_count}
use Rattle.bitmap_core.specs.Encoding.{encoding}
use Rattle.bitmap_core.specs.Decoding.{number, chunk_bytes, trailing, bits_error}
use Rattle.bitmap_core.specs.Decoding.DecodeError.{Invalid}
use Rattle.bitmap_bytes.proofs.Chunks.Places.{IsChunkCount-ceil, fewer_ceil}
use Rattle.bitmap_core.proofs.Codec.Encodings.{AreBytes, value, chunks_in, length-chunks_in, zeros, same_past, text-encodes, length-encoding}
use Rattle.bitmap_core.proofs.Codec.DecodeErrors.{sound}

-- ---- sizes

-- the bits of all chunks together are fewer than 2 ^ 65
pub bytes-lt : (n len : ℕ) → 0 < n → 8 * n < 2 ^ 64 → len < 2 ^ 64 → 8 * (n * chunk_count n len) < 2 ^ 65
bytes-lt n len p f l =
    let c = IsChunkCount-ceil n len p in
    let g : 8 * n * chunk_count n len ≡ 8 * (n * chunk_count n len) = grind arith in
    omega arith

pub encoding-lt : (n : ℕ) (v : List Bool) → 0 < n → 8 * n < 2 ^ 64 → length v < 2 ^ 64 → length (encoding n v) + 8 < 2 ^ 64
encoding-lt n v p f l = omega (arith, length-encoding n v, bytes-lt n (length v) p f l)

-- the encoding of at most b bits is no larger than that of b bits
pub most_bytes : (n b : ℕ) (v : List Bool) → 0 < n → length v ≤ b → length (encoding n v) ≤ chunk_count n b * n + 8
most_bytes n b v p h =
    let f = fewer_ceil n (chunk_count n b) (length v) b p (IsChunkCount-ceil n b p) h in
    let e : chunk_count n (length v) + (chunk_count n b - chunk_count n (length v)) ≡ chunk_count n b = omega (arith, f) in
    let m = ap (λ x. n * x) e in
    let a = mul-add n (chunk_count n (length v)) (chunk_count n b - chunk_count n (length v)) in
    let g : chunk_count n b * n ≡ n * chunk_count n b = grind arith in
    let s = length-encoding n v in
    omega arith

pub all_bytes : (n b : ℕ) (v : List Bool) → length v ≡ b → length (encoding n v) ≡ chunk_count n b * n + 8
all_bytes n b v h =
    let g : chunk_count n b * n ≡ n * chunk_count n b = grind arith in
    omega (arith, length-encoding n v, ap (λ x. n * chunk_count n x) h)

-- ---- a read

module _ (n : ℕ) (text : List ℕ) (count : ℕ) (body : List ℕ) (counted : count ≡ chunk_count n (number text)) (at : body ≡ drop 8 text) where
  pub read_whole : 8 ≤ length text → n * count ≤ length body → 8 + chunk_bytes n text ≤ length text
  read_whole h l = omega (arith, ap (λ m. n * m) counted, ap length at, length-drop 8 text)

  pub read_rest : (rest : List ℕ) → rest ≡ drop (n * count) body → rest ≡ drop (8 + chunk_bytes n text) text
  read_rest rest e = e ∙ ap (λ m. drop (n * m) body) counted ∙ ap (drop (chunk_bytes n text)) at ∙ drop-drop (chunk_bytes n text) 8 text

  pub read_chunks : (bytes : List ℕ) (xs : List (List ℕ)) → bytes ≡ take (n * count) body → xs ≡ first_chunks n count bytes
      → xs ≡ chunks_in n (number text) (drop 8 text)
  read_chunks bytes xs e x =
      x
      ∙ ap (first_chunks n count) e
      ∙ ap (λ m. first_chunks n m (take (n * m) body)) counted
      ∙ ap (λ b. first_chunks n (chunk_count n (number text)) (take (n * chunk_count n (number text)) b)) at

-- the test of the chunks is the test of the input
pub read_past : (n : ℕ) (text : List ℕ) (len : ℕ) (xs : List (List ℕ)) (r : Bool) → 0 < n → len ≡ number text
    → xs ≡ chunks_in n (number text) (drop 8 text)
    → r ≡ list_any (chunks_bit n xs) (range_with_len len (8 * n * length xs - len)) → list_any (bytes_bit (drop 8 text)) (trailing n text) ≡ r
read_past n text len xs r p l x e =
    sym (e ∙ ap (λ ys. list_any (chunks_bit n ys) (range_with_len len (8 * n * length ys - len))) x
    ∙ ap (λ m.
    list_any (chunks_bit n (chunks_in n (number text) (drop 8 text))) (range_with_len m (8 * n * length (chunks_in n (number text) (drop 8 text)) - m))) l
    ∙ same_past n (number text) (drop 8 text) p)

-- the decode error of an input whose last chunk has a bit past the length
pub trailing_error : (n : ℕ) (range : ℕ → Bool) (text : List ℕ) → 8 ≤ length text → range (number text) ≡ true
    → chunk_count n (number text) < 2 ^ 64 → 8 + chunk_bytes n text ≤ length text
    → list_any (bytes_bit (drop 8 text)) (trailing n text) ≡ true
    → bits_error n range text ≡ Some (Invalid (codes "BitMap") (codes "Invalid trailing bits in encoded data"))
unfolding bits_error
trailing_error n range text l a c w e = rw (le-ltb _ _ l, a, lt-ltb _ _ c, le-ltb _ _ w, e) refl

-- the parts of an accepted input
pub record IsRead (n : ℕ) (text : List ℕ) (len : ℕ) (xs : List (List ℕ)) (rest : List ℕ) : Type 0 where
  pub count : IsChunkCount n (length xs) len
  pub zero : IsZeroFrom n xs len
  pub encoded : text ≡ encoding n (bits n xs len) ++ rest

pub read_is : (n : ℕ) (range : ℕ → Bool) (text : List ℕ) (len : ℕ) (xs : List (List ℕ)) (rest : List ℕ) → 0 < n → AreBytes text
    → bits_error n range text ≡ None → len ≡ number text → xs ≡ chunks_in n (number text) (drop 8 text)
    → rest ≡ drop (8 + chunk_bytes n text) text
    → IsRead n text len xs rest
unfolding value
read_is n range text len xs rest p h e el ex er =
    let s = sound n range text e in
    let c : length xs ≡ chunk_count n (number text) = ap length ex ∙ length-chunks_in n (number text) (drop 8 text) in
    record {
      count = rw (c, el) (IsChunkCount-ceil n (number text) p);
      zero = rw (ex, el) (zeros n (number text) (drop 8 text) p s.clear);
      encoded = rw (ex, el, er) (text-encodes n text p h s.whole s.clear);
    }

-- ---- a write

-- the size of the parts
pub encoding_pieces : (n : ℕ) (a b : List (List ℕ)) (v : List Bool)
    → a ++ b ≡ map (chunk_of n v) (range_with_len 0 (chunk_count n (length v)))
    → length (encoding n v) ≡ 8 + (length a * n + length b * n)
encoding_pieces n a b v e =
    let s = length-encoding n v in
    let l : length a + length b ≡ chunk_count n (length v) =
    sym (length-append a b)
    ∙ ap length e
    ∙ length-map-range_with_len (chunk_of n v) 0 (chunk_count n (length v)) in
    let m = ap (λ x. n * x) l in
    let g : n * (length a + length b) ≡ length a * n + length b * n = grind arith in
    omega arith

-- the parts, one after another
pub written : (n : ℕ) (a b : List (List ℕ)) (v : List Bool) (old : List ℕ)
    → a ++ b ≡ map (chunk_of n v) (range_with_len 0 (chunk_count n (length v)))
    → ((old ++ to_be_bytes w64 (length v)) ++ flat_map (λ x. x) a) ++ flat_map (λ x. x) b ≡ old ++ encoding n v
unfolding encoding
written n a b v old e =
    let f : flat_map (λ x. x) a ++ flat_map (λ x. x) b ≡ flat_map (chunk_of n v) (range_with_len 0 (chunk_count n (length v))) =
    sym (flat_map-append (λ x. x) a b)
    ∙ ap (flat_map (λ x. x)) e
    ∙ flat_map-map (λ x. x) (chunk_of n v) (range_with_len 0 (chunk_count n (length v))) in
    append_assoc (old ++ to_be_bytes w64 (length v)) (flat_map (λ x. x) a) (flat_map (λ x. x) b)
    ∙ ap (λ x. (old ++ to_be_bytes w64 (length v)) ++ x) f
    ∙ append_assoc old (to_be_bytes w64 (length v)) (flat_map (chunk_of n v) (range_with_len 0 (chunk_count n (length v))))
