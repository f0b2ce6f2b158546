-- The first chunks removed, and chunks inserted before the first one.
use Rattle.std.proofs.Common.{◌≡◌, ℕ, suc, ◌+◌, ◌-◌, ◌*◌, ◌/◌, ◌%◌, ◌<◌, ◌≤◌, Bool, false, List, [], ◌∷◌, ◌++◌, length, get_or, take, drop, refl, sym, ap, ◌∙◌, inl, inr, arith}
use Rattle.std.specs.List.{flat_map}
use Rattle.std.proofs.Math.Nat.{div-add-mod, mul-add, mul-add-div, mul-add-mod_self_left, mod-mod}
use Rattle.std.proofs.lemmas.Nat.{mod_below, div_below}
use Rattle.std.proofs.lemmas.List.{get_or-drop, length-drop, length-append, get_or_append_left, get_or-append_right, length-take-le}
use Rattle.std.proofs.Math.Seq.{drop-cons}
use Rattle.std.proofs.lemmas.List.Concat.{get_or-flat_map}
use Rattle.std.proofs.lemmas.List.FromFn.{length-map-range_with_len, get_or-map-range_with_len}
use Rattle.std.proofs.lemmas.Bool.{cases_lt}
use Rattle.bitmap_bytes.specs.Chunk.{chunk_bit, chunk_bits}
use Rattle.bitmap_bytes.specs.Bits.{chunks_bit, bits, IsChunkCount, IsZeroFrom}
use Rattle.bitmap_bytes.proofs.Chunks.Bits.{chunk_bit-mod}
use Rattle.bitmap_bytes.proofs.Lists.Bits.{get_or-bits, bits_are, len_is}

-- a position moved up by k chunks
quotient_up : (n k i : ℕ) → 0 < n → (8 * n * k + i) / (8 * n) ≡ k + i / (8 * n)
quotient_up n k i p = mul-add-div (omega arith) k i

rest_up : (n k i : ℕ) → (8 * n * k + i) % (8 * n) ≡ i % (8 * n)
rest_up n k i = mul-add-mod_self_left (8 * n) k i

-- without the first k chunks, each bit is the one that was k chunks further on
chunks_bit-drop : (n : ℕ) (xs : List (List ℕ)) (k i : ℕ) → 0 < n → chunks_bit n (drop k xs) i ≡ chunks_bit n xs (8 * n * k + i)
chunks_bit-drop n xs k i p =
    ap (λ c. chunk_bit n c i) (get_or-drop k xs (i / (8 * n)) [] ∙ ap (λ j. get_or xs j []) (sym (quotient_up n k i p)))
    ∙ chunk_bit-mod n (get_or xs ((8 * n * k + i) / (8 * n)) []) i (8 * n * k + i) p (sym (rest_up n k i))

-- the first chunks are removed with their bits; the bits past the length stay zero, and the number of chunks stays right
pub bits-drop : (n : ℕ) (xs : List (List ℕ)) (k len : ℕ) (v : List Bool) → 0 < n → 8 * n * k ≤ len → bits n xs len ≡ v
    → bits n (drop k xs) (len - 8 * n * k) ≡ drop (8 * n * k) v
bits-drop n xs k len v p h e =
    bits_are n (drop k xs) (len - 8 * n * k) (drop (8 * n * k) v) (length-drop (8 * n * k) v ∙ ap (λ m. m - 8 * n * k) (len_is n xs len v e)) (λ i s.
    chunks_bit-drop n xs k i p
    ∙ sym (get_or-bits n xs len (8 * n * k + i) false (omega arith))
    ∙ ap (λ x. get_or x (8 * n * k + i) false) e
    ∙ sym (get_or-drop (8 * n * k) v i false))

pub IsZeroFrom-drop : (n : ℕ) (xs : List (List ℕ)) (k len : ℕ) → 0 < n → 8 * n * k ≤ len → IsZeroFrom n xs len
    → IsZeroFrom n (drop k xs) (len - 8 * n * k)
IsZeroFrom-drop n xs k len p h z i s = chunks_bit-drop n xs k i p ∙ z (8 * n * k + i) (omega arith)

pub IsChunkCount-drop : (n k m len : ℕ) → 8 * n * k ≤ len → k ≤ m → IsChunkCount n m len → IsChunkCount n (m - k) (len - 8 * n * k)
IsChunkCount-drop n k m len h s c =
    let e : 8 * n * k + 8 * n * (m - k) ≡ 8 * n * m = sym (mul-add (8 * n) k (m - k)) ∙ ap (λ x. 8 * n * x) (omega arith) in
    (omega (arith, c.0), omega (arith, c.1))

-- inserted chunks, followed by the others
drop-append : (cs xs : List (List ℕ)) → drop (length cs) (cs ++ xs) ≡ xs
drop-append [] xs = refl
drop-append (c ∷ cs) xs = drop-append cs xs

chunks_bit-front : (n : ℕ) (cs xs : List (List ℕ)) (i : ℕ) → i / (8 * n) < length cs → chunks_bit n (cs ++ xs) i ≡ chunks_bit n cs i
chunks_bit-front n cs xs i h = ap (λ c. chunk_bit n c i) (get_or_append_left cs xs [] (i / (8 * n)) h)

chunks_bit-beyond : (n : ℕ) (cs xs : List (List ℕ)) (i : ℕ) → 0 < n → 8 * n * length cs ≤ i → chunks_bit n (cs ++ xs) i ≡ chunks_bit n xs (i - 8 * n * length cs)
chunks_bit-beyond n cs xs i p h =
    let e : 8 * n * length cs + (i - 8 * n * length cs) ≡ i = omega arith in
    ap (λ j. chunks_bit n (cs ++ xs) j) (sym e)
    ∙ sym (chunks_bit-drop n (cs ++ xs) (length cs) (i - 8 * n * length cs) p)
    ∙ ap (λ ys. chunks_bit n ys (i - 8 * n * length cs)) (drop-append cs xs)

-- lists of one length w, joined
pub length-pieces : {X A : Type 0} (f : X → List A) (w : ℕ) (xs : List X) → ((x : X) → length (f x) ≡ w) → length (flat_map f xs) ≡ w * length xs
length-pieces f w [] h = omega arith
length-pieces f w (x ∷ xs) h = omega (arith, length-append (f x) (flat_map f xs), h x, length-pieces f w xs h)

in_piece : {X A : Type 0} (f : X → List A) (w : ℕ) (xs : List X) (k : ℕ) (e : X) (d : A) → 0 < w → ((x : X) → length (f x) ≡ w)
    → k < w * length xs
    → get_or (flat_map f xs) k d ≡ get_or (f (get_or xs (k / w) e)) (k % w) d
in_piece f w xs k e d pos h l =
    let i : k / w < length xs = div_below k w (length xs) pos (omega arith) in
    let place = div-add-mod k w in
    let before_it : length (flat_map f (take (k / w) xs)) + k % w ≡ k =
    omega (arith, length-pieces f w (take (k / w) xs) h, ap (λ m. w * m) (length-take-le (k / w) xs (omega arith))) in
    let inside : k % w < length (f (get_or xs (k / w) e)) = omega (arith, h (get_or xs (k / w) e), mod_below k w pos) in
    ap (λ m. get_or (flat_map f xs) m d) (sym before_it) ∙ get_or-flat_map f xs (k / w) (k % w) e d i inside

length-chunk_width : (n : ℕ) (c : List ℕ) → length (chunk_bits n c) ≡ 8 * n
length-chunk_width n c = length-map-range_with_len (chunk_bit n c) 0 (8 * n)

pub length-front_bits : (n : ℕ) (cs : List (List ℕ)) → length (flat_map (chunk_bits n) cs) ≡ 8 * n * length cs
length-front_bits n cs = length-pieces (chunk_bits n) (8 * n) cs (length-chunk_width n)

pub get_or-front_bits : (n : ℕ) (cs : List (List ℕ)) (i : ℕ) → 0 < n → i < 8 * n * length cs
    → get_or (flat_map (chunk_bits n) cs) i false ≡ chunks_bit n cs i
get_or-front_bits n cs i p h =
    let r = mod_below i (8 * n) (omega arith) in
    in_piece (chunk_bits n) (8 * n) cs i [] false (omega arith) (length-chunk_width n) h
    ∙ get_or-map-range_with_len (chunk_bit n (get_or cs (i / (8 * n)) [])) 0 (8 * n) (i % (8 * n)) (i % (8 * n)) false r (omega arith)
    ∙ chunk_bit-mod n (get_or cs (i / (8 * n)) []) (i % (8 * n)) i p (mod-mod i (8 * n))

-- inserted chunks add their bits; the bits past the length stay zero, and the number of chunks stays right
pub bits-front : (n : ℕ) (cs xs : List (List ℕ)) (len : ℕ) (v : List Bool) → 0 < n → bits n xs len ≡ v
    → bits n (cs ++ xs) (8 * n * length cs + len) ≡ flat_map (chunk_bits n) cs ++ v
bits-front n cs xs len v p e =
    let l = length-front_bits n cs in
    let front : List Bool = flat_map (chunk_bits n) cs in
    let lengths : length (front ++ v) ≡ 8 * n * length cs + len = omega (arith, length-append front v, len_is n xs len v e) in
    bits_are n (cs ++ xs) (8 * n * length cs + len) (front ++ v) lengths (λ i s. elim (cases_lt i (8 * n * length cs)) [
      | inl h ↦
          chunks_bit-front n cs xs i (div_below i (8 * n) (length cs) (omega arith) (omega arith))
          ∙ sym (get_or-front_bits n cs i p h)
          ∙ sym (get_or_append_left (flat_map (chunk_bits n) cs) v false i (omega arith))
      | inr h ↦
          chunks_bit-beyond n cs xs i p h
          ∙ sym (get_or-bits n xs len (i - 8 * n * length cs) false (omega arith))
          ∙ ap (λ x. get_or x (i - 8 * n * length cs) false) e
          ∙ sym (get_or-append_right (flat_map (chunk_bits n) cs) v (8 * n * length cs) i false l h)
    ])

pub IsZeroFrom-front : (n : ℕ) (cs xs : List (List ℕ)) (len : ℕ) → 0 < n → IsZeroFrom n xs len → IsZeroFrom n (cs ++ xs) (8 * n * length cs + len)
IsZeroFrom-front n cs xs len p z i s = chunks_bit-beyond n cs xs i p (omega arith) ∙ z (i - 8 * n * length cs) (omega arith)

pub IsChunkCount-front : (n k m len : ℕ) → IsChunkCount n m len → IsChunkCount n (k + m) (8 * n * k + len)
IsChunkCount-front n k m len c = let e = mul-add (8 * n) k m in (omega (arith, c.0), omega (arith, c.1))

-- chunks are inserted before the first one by one, the last one first
pub put_front_step : (cs xs : List (List ℕ)) (left : ℕ) (c : List ℕ) → 0 < left → left ≤ length cs → c ≡ get_or cs (left - 1) c
    → c ∷ (drop left cs ++ xs) ≡ drop (left - 1) cs ++ xs
put_front_step cs xs left c p h e =
    let s : suc (left - 1) ≡ left = omega arith in
    let dropped = drop-cons cs (left - 1) c (omega arith) ∙ ap (λ m. get_or cs (left - 1) c ∷ drop m cs) s in
    ap (λ ys. ys ++ xs) (ap (λ x. x ∷ drop left cs) e ∙ sym dropped)
