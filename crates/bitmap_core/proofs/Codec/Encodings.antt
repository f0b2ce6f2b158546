-- Inputs that are decoded to a list of bits, and their encodings.
use Rattle.std.proofs.Common.{◌≡◌, ℕ, ◌+◌, ◌-◌, ◌*◌, ◌/◌, ◌%◌, ◌^◌, ◌<◌, ◌≤◌, Bool, false, List, [], ◌++◌, length, get_or, take, drop, map, eqb, refl, sym, ap, ◌∙◌, append_assoc, inl, inr, arith}
use Rattle.std.specs.List.{range_with_len, flat_map, list_any}
use Rattle.std.specs.Int.{w64, bit_at, to_be_bytes, from_be_bytes}
use Rattle.std.specs.Simd.{first_chunks}
use Rattle.std.proofs.Math.Nat.{div-lt_iff_lt-mul, mul-add}
use Rattle.std.proofs.lemmas.Nat.{be_bytes_8, from_be_bytes-to_be_bytes_8}
use Rattle.std.proofs.lemmas.List.{ext_get_or, get_or_past, get_or-take, get_or-drop, drop-drop, get_or_default, length-take, length-drop, length-append, take_at, drop_at, take-append-drop}
use Rattle.std.proofs.lemmas.List.FromFn.{fill_by_all}
use Rattle.std.proofs.lemmas.List.Folds.{flat_map-map}
use Rattle.std.proofs.lemmas.Bool.{cases_lt}
use Rattle.bitmap_bytes.specs.Chunk.{bytes_bit, chunk_of}
use Rattle.bitmap_bytes.specs.Bits.{chunks_bit, bits, IsZeroFrom, chunk_count}
use Rattle.bitmap_core.specs.Encoding.{encoding}
use Rattle.bitmap_core.specs.Decoding.{number, chunk_bytes, trailing, bits_in}
use Rattle.bitmap_bytes.proofs.Chunks.Places.{IsChunkCount-ceil}
use Rattle.bitmap_bytes.proofs.Lists.Bits.{length-bits}
use Rattle.bitmap_bytes.proofs.Chunks.Lists.{bit_of_past}
use Rattle.bitmap_bytes.proofs.Chunks.AsBytes.{chunk_is, length-chunk_of}
use Rattle.bitmap_bytes.proofs.Counting.Words.{get_or-first_chunks}
use Rattle.bitmap_bytes.proofs.Counting.Tests.{any_range_at, any_range_none, any_range-same}
use Rattle.bitmap_bytes.proofs.Chunks.OfBytes.{length-first_chunks, first_chunks-all, chunks_bit-first_chunks, length-range_pieces, bytes_bit-chunks}

-- each number is a byte
abbrev pub AreBytes : List ℕ → Type 0
AreBytes text = (i : ℕ) → get_or text i 0 < 256

-- ---- the number at the start of an input

pub AreBytes-drop : (a : ℕ) (text : List ℕ) → AreBytes text → AreBytes (drop a text)
AreBytes-drop a text h i = rw get_or-drop (h (a + i))

AreBytes-take : (a : ℕ) (text : List ℕ) → AreBytes text → AreBytes (take a text)
AreBytes-take a text h i = elim (cases_lt i a) [
  | inl s ↦ rw (get_or-take a text i 0 s) (h i)
  | inr l ↦ rw (get_or_past (take a text) i 0 (omega (arith, length-take a text))) (omega arith)
]

-- an input begins with the bytes of its number
pub number_of_text : (text : List ℕ) → AreBytes text → 8 ≤ length text → text ≡ to_be_bytes w64 (number text) ++ drop 8 text
number_of_text text h l =
    sym (take-append-drop 8 text)
    ∙ ap (λ x. x ++ drop 8 text) (sym (be_bytes_8 (take 8 text) (number text) (omega (arith, length-take 8 text)) (AreBytes-take 8 text h) refl))

pub number-lt : (text : List ℕ) → AreBytes text → number text < 2 ^ 64
number-lt text h = let f = AreBytes-take 8 text h in omega (arith, f 0, f 1, f 2, f 3, f 4, f 5, f 6, f 7)

-- an encoded number is decoded to itself
pub number-again : (m : ℕ) (rest : List ℕ) → m < 2 ^ 64 → number (to_be_bytes w64 m ++ rest) ≡ m
number-again m rest h = ap (from_be_bytes w64) (take_at (to_be_bytes w64 m) rest 8 refl) ∙ from_be_bytes-to_be_bytes_8 m h

-- ---- the chunks of an input

-- the chunks of len bits that some bytes begin with
abbrev pub chunks_in : ℕ → ℕ → List ℕ → List (List ℕ)
chunks_in n len body = first_chunks n (chunk_count n len) (take (n * chunk_count n len) body)

-- the bits of these chunks
unfoldable pub value : ℕ → ℕ → List ℕ → List Bool
value n len body = bits n (chunks_in n len body) len

pub length-value : (n len : ℕ) (body : List ℕ) → length (value n len body) ≡ len
unfolding value
length-value n len body = length-bits n _ len

pub length-chunks_in : (n len : ℕ) (body : List ℕ) → length (chunks_in n len body) ≡ chunk_count n len
length-chunks_in n len body = length-first_chunks n (chunk_count n len) (take (n * chunk_count n len) body)

-- a bit of these chunks is the bit of the bytes at its position
chunks_bit-chunks_in : (n len : ℕ) (body : List ℕ) (i : ℕ) → 0 < n → i < 8 * (n * chunk_count n len) → chunks_bit n (chunks_in n len body) i ≡ bytes_bit body i
chunks_bit-chunks_in n len body i p h =
    let w : i / (8 * n) < chunk_count n len = (div-lt_iff_lt-mul {k = 8 * n} {x = i} {y = chunk_count n len} (omega arith)).1 (grind arith) in
    let b : i / 8 < n * chunk_count n len = omega arith in
    chunks_bit-first_chunks n (chunk_count n len) (take (n * chunk_count n len) body) i p w
    ∙ ap (λ x. eqb (bit_at x (i % 8)) 1) (get_or-take (n * chunk_count n len) body (i / 8) 0 b)

-- no bit of the chunks is set past the length
pub zeros : (n len : ℕ) (body : List ℕ) → 0 < n
    → list_any (bytes_bit body) (range_with_len len (8 * (n * chunk_count n len) - len)) ≡ false
    → IsZeroFrom n (chunks_in n len body) len
zeros n len body p e i s =
    elim (cases_lt (i / (8 * n)) (chunk_count n len)) [
      | inl h ↦
          let w : i < chunk_count n len * (8 * n) = (div-lt_iff_lt-mul {k = 8 * n} {x = i} {y = chunk_count n len} (omega arith)).0 h in
          let g : i < 8 * (n * chunk_count n len) = grind arith in
          chunks_bit-chunks_in n len body i p g ∙ any_range_at (bytes_bit body) len (8 * (n * chunk_count n len) - len) i e s (omega arith)
      | inr h ↦ bit_of_past n (chunks_in n len body) i (rw (length-chunks_in n len body) h)
    ]

-- the bits past the length are the same in the chunks and in the bytes
pub same_past : (n len : ℕ) (body : List ℕ) → 0 < n
    → list_any (chunks_bit n (chunks_in n len body)) (range_with_len len (8 * n * length (chunks_in n len body) - len))
    ≡ list_any (bytes_bit body) (range_with_len len (8 * (n * chunk_count n len) - len))
same_past n len body p =
    let g : 8 * n * length (chunks_in n len body) - len ≡ 8 * (n * chunk_count n len) - len =
    let b = ap (λ x. 8 * n * x) (length-chunks_in n len body) in
    let c : 8 * n * chunk_count n len ≡ 8 * (n * chunk_count n len) = grind arith in
    omega arith in
    ap (λ m. list_any (chunks_bit n (chunks_in n len body)) (range_with_len len m)) g
    ∙ any_range-same (chunks_bit n (chunks_in n len body)) (bytes_bit body) len (8 * (n * chunk_count n len) - len) (λ i a b.
    chunks_bit-chunks_in n len body i p (omega arith))

-- chunks with no bit set past the length are the chunks of their bits
chunks-encode : (n len : ℕ) (body : List ℕ) → 0 < n → AreBytes body → n * chunk_count n len ≤ length body
    → list_any (bytes_bit body) (range_with_len len (8 * (n * chunk_count n len) - len)) ≡ false
    → chunks_in n len body ≡ map (chunk_of n (bits n (chunks_in n len body) len)) (range_with_len 0 (chunk_count n len))
chunks-encode n len body p h l e =
    let k : ℕ = chunk_count n len in
    let bytes : List ℕ = take (n * chunk_count n len) body in
    let xs : List (List ℕ) = chunks_in n len body in
    let lb : length bytes ≡ n * k = omega (arith, length-take (n * k) body) in
    let fits = AreBytes-take (n * k) body h in
    fill_by_all (chunk_of n (bits n xs len)) xs k [] (length-chunks_in n len body) (λ i s.
    let inside : i < length xs = rw (length-chunks_in n len body) s in
    let is : get_or xs i [] ≡ take n (drop (n * i) bytes) = get_or-first_chunks n k bytes i s in
    let m = mul-le n (i + 1) k (omega arith) in
    let wide : length (take n (drop (n * i) bytes)) ≡ n = omega (
      arith,
      length-take n (drop (n * i) bytes),
      length-drop (n * i) bytes,
      mul-add n i 1,
    ) in
    chunk_is n xs len (bits n xs len) i (get_or xs i []) p refl (zeros n len body p e) inside
    (get_or_default xs i [] (get_or xs i []) inside) (ap length is ∙ wide) (λ q.
    rw is (AreBytes-take n (drop (n * i) bytes) (AreBytes-drop (n * i) bytes fits) q)))
  where
    mul-le : (c a b : ℕ) → a ≤ b → c * a ≤ c * b
    mul-le c a b q = let e : a + (b - a) ≡ b = omega arith in omega (arith, mul-add c a (b - a), ap (λ x. c * x) e)

-- an input is its parts, one after another
joined : (n len a : ℕ) (text body : List ℕ) (chunks : List (List ℕ)) (v : List Bool) → text ≡ to_be_bytes w64 len ++ body
    → flat_map (λ x. x) chunks ≡ take a body → chunks ≡ map (chunk_of n v) (range_with_len 0 (chunk_count n len))
    → length v ≡ len
    → text ≡ encoding n v ++ drop a body
unfolding encoding
joined n len a text body chunks v e f c l =
    let flat : List ℕ = flat_map (chunk_of n v) (range_with_len 0 (chunk_count n len)) in
    let g : take a body ≡ flat = sym f ∙ ap (flat_map (λ x. x)) c ∙ flat_map-map (λ x. x) (chunk_of n v) (range_with_len 0 (chunk_count n len)) in
    let b : body ≡ flat ++ drop a body = sym (take-append-drop a body) ∙ ap (λ x. x ++ drop a body) g in
    e
    ∙ ap (λ x. to_be_bytes w64 len ++ x) b
    ∙ sym (append_assoc (to_be_bytes w64 len) flat (drop a body))
    ∙ ap (λ m. (to_be_bytes w64 m ++ flat_map (chunk_of n v) (range_with_len 0 (chunk_count n m))) ++ drop a body) (sym l)

-- an input with a valid length and valid chunks begins with the encoding of its bits
pub text-encodes : (n : ℕ) (text : List ℕ) → 0 < n → AreBytes text → 8 + chunk_bytes n text ≤ length text
    → list_any (bytes_bit (drop 8 text)) (trailing n text) ≡ false
    → text ≡ encoding n (value n (number text) (drop 8 text)) ++ drop (8 + chunk_bytes n text) text
unfolding value
text-encodes n text p h l e =
    joined n (number text) (chunk_bytes n text) text (drop 8 text) (chunks_in n (number text) (drop 8 text)) _ (number_of_text text h (omega arith))
    (first_chunks-all n (chunk_count n (number text)) (take (chunk_bytes n text) (drop 8 text))
    (omega (arith, length-take (chunk_bytes n text) (drop 8 text), length-drop 8 text)))
    (chunks-encode n (number text) (drop 8 text) p (AreBytes-drop 8 text h) (omega (arith, length-drop 8 text)) e)
    (length-bits n _ (number text))
    ∙ ap (λ x. encoding n (bits n (chunks_in n (number text) (drop 8 text)) (number text)) ++ x) (drop-drop (chunk_bytes n text) 8 text)

-- ---- encodings

pub length-encoding : (n : ℕ) (v : List Bool) → length (encoding n v) ≡ 8 + n * chunk_count n (length v)
unfolding encoding
length-encoding n v =
    length-append (to_be_bytes w64 (length v)) (flat_map (chunk_of n v) (range_with_len 0 (chunk_count n (length v))))
    ∙ ap (λ x. 8 + x) (length-range_pieces n (chunk_of n v) 0 (chunk_count n (length v)) (length-chunk_of n v))

pub encoding-number : (n : ℕ) (v : List Bool) (rest : List ℕ) → length v < 2 ^ 64 → number (encoding n v ++ rest) ≡ length v
unfolding encoding
encoding-number n v rest h =
    ap number (append_assoc (to_be_bytes w64 (length v)) (flat_map (chunk_of n v) (range_with_len 0 (chunk_count n (length v)))) rest)
    ∙ number-again (length v) (flat_map (chunk_of n v) (range_with_len 0 (chunk_count n (length v))) ++ rest) h

encoding-body : (n : ℕ) (v : List Bool) (rest : List ℕ)
    → drop 8 (encoding n v ++ rest) ≡ flat_map (chunk_of n v) (range_with_len 0 (chunk_count n (length v))) ++ rest
unfolding encoding
encoding-body n v rest =
    ap (drop 8) (append_assoc (to_be_bytes w64 (length v)) (flat_map (chunk_of n v) (range_with_len 0 (chunk_count n (length v)))) rest)
    ∙ drop_at (to_be_bytes w64 (length v)) (flat_map (chunk_of n v) (range_with_len 0 (chunk_count n (length v))) ++ rest) 8 refl

encoding-bit : (n : ℕ) (v : List Bool) (rest : List ℕ) (i : ℕ) → 0 < n → i < 8 * (n * chunk_count n (length v))
    → bytes_bit (drop 8 (encoding n v ++ rest)) i ≡ get_or v i false
encoding-bit n v rest i p h = ap (λ x. bytes_bit x i) (encoding-body n v rest) ∙ bytes_bit-chunks n v (chunk_count n (length v)) i rest p h

-- an encoding is decoded to its bits
bits_in-encoding : (n : ℕ) (v : List Bool) (rest : List ℕ) → 0 < n → length v < 2 ^ 64 → v ≡ bits_in (encoding n v ++ rest)
unfolding bits_in
bits_in-encoding n v rest p h =
    let c = IsChunkCount-ceil n (length v) p in
    let g : 8 * n * chunk_count n (length v) ≡ 8 * (n * chunk_count n (length v)) = grind arith in
    fill_by_all (bytes_bit (drop 8 (encoding n v ++ rest))) v (number (encoding n v ++ rest)) false (sym (encoding-number n v rest h)) (λ i s.
    sym (encoding-bit n v rest i p (omega (arith, encoding-number n v rest h))))

pub bits_in_encoded : (n : ℕ) (text : List ℕ) (v : List Bool) (rest : List ℕ) → 0 < n → length v < 2 ^ 64
    → text ≡ encoding n v ++ rest
    → v ≡ bits_in text
bits_in_encoded n text v rest p h e = bits_in-encoding n v rest p h ∙ ap bits_in (sym e)

pub encoding-trailing : (n : ℕ) (v : List Bool) (rest : List ℕ) → 0 < n → length v < 2 ^ 64
    → list_any (bytes_bit (drop 8 (encoding n v ++ rest))) (trailing n (encoding n v ++ rest)) ≡ false
encoding-trailing n v rest p h =
    let more : ℕ = 8 * (n * chunk_count n (length v)) - length v in
    let bit : ℕ → Bool = bytes_bit (drop 8 (encoding n v ++ rest)) in
    rw (encoding-number n v rest h) (any_range_none bit (length v) more (λ i l s. encoding-bit n v rest i p (omega arith) ∙ get_or_past v i false l))

-- equal bytes that begin with encodings have equal bits and equal bytes after them
pub same_encoding : (n : ℕ) (v w : List Bool) (xs ys : List ℕ) → 0 < n → length v < 2 ^ 64 → length w < 2 ^ 64
    → encoding n v ++ xs ≡ encoding n w ++ ys
    → (v ≡ w) × (xs ≡ ys)
same_encoding n v w xs ys p lv lw e =
    let l : length v ≡ length w = sym (encoding-number n v xs lv) ∙ ap number e ∙ encoding-number n w ys lw in
    let c = IsChunkCount-ceil n (length v) p in
    let g : 8 * n * chunk_count n (length v) ≡ 8 * (n * chunk_count n (length v)) = grind arith in
    let same : v ≡ w = ext_get_or false v w l (λ i s.
    sym (encoding-bit n v xs i p (omega arith))
    ∙ ap (λ x. bytes_bit (drop 8 x) i) e
    ∙ encoding-bit n w ys i p (rw (← l) (omega arith))) in (
      same,
      sym (drop_at (encoding n v) xs (length (encoding n v)) refl)
          ∙ ap (drop (length (encoding n v))) e
          ∙ drop_at (encoding n w) ys (length (encoding n v)) (ap (λ x. length (encoding n x)) (sym same)),
    )

-- equal encodings are of equal lists
pub same_where_encoded : (n : ℕ) (v w : List Bool) → 0 < n → length v < 2 ^ 64 → length w < 2 ^ 64 → encoding n v ≡ encoding n w → v ≡ w
same_where_encoded n v w p lv lw e = (same_encoding n v w [] [] p lv lw (ap (λ x. x ++ []) e)).0
