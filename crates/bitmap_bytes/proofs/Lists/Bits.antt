-- The list of the bits of chunks, by position.
use Rattle.std.proofs.Common.{◌≡◌, ℕ, ◌+◌, ◌*◌, ◌/◌, ◌<◌, ◌≤◌, Bool, false, List, [], ◌∷◌, ◌++◌, length, get_or, take, replicate, refl, sym, ap, ◌∙◌, arith}
use Rattle.std.proofs.lemmas.List.{ext_get_or, length-replicate, get_or-replicate}
use Rattle.std.proofs.lemmas.List.FromFn.{length-map-range_with_len, get_or-map-range_with_len, take-map-range_with_len, map-range_with_len_more}
use Rattle.bitmap_bytes.specs.Bits.{chunks_bit, bits, IsChunkCount}
use Rattle.bitmap_bytes.proofs.Chunks.Places.{index_below}

pub length-bits : (n : ℕ) (chunks : List (List ℕ)) (len : ℕ) → length (bits n chunks len) ≡ len
unfolding bits
length-bits n chunks len = length-map-range_with_len (chunks_bit n chunks) 0 len

pub get_or-bits : (n : ℕ) (chunks : List (List ℕ)) (len i : ℕ) (d : Bool) → i < len → get_or (bits n chunks len) i d ≡ chunks_bit n chunks i
unfolding bits
get_or-bits n chunks len i d h = get_or-map-range_with_len (chunks_bit n chunks) 0 len i i d h (omega arith)

-- the list with one more bit
pub bits-more : (n : ℕ) (chunks : List (List ℕ)) (len : ℕ) → bits n chunks (len + 1) ≡ bits n chunks len ++ chunks_bit n chunks len ∷ []
unfolding bits
bits-more n chunks len = map-range_with_len_more (chunks_bit n chunks) 0 len len (omega arith)

pub take-bits : (n : ℕ) (chunks : List (List ℕ)) (len k : ℕ) → k ≤ len → take k (bits n chunks len) ≡ bits n chunks k
unfolding bits
take-bits n chunks len k h = take-map-range_with_len (chunks_bit n chunks) 0 len k h

-- a list of bits is determined by its length and each of its bits
pub bits_are : (n : ℕ) (chunks : List (List ℕ)) (len : ℕ) (v : List Bool) → length v ≡ len
    → ((i : ℕ) → i < len → chunks_bit n chunks i ≡ get_or v i false)
    → bits n chunks len ≡ v
bits_are n chunks len v l h =
    ext_get_or false (bits n chunks len) v (length-bits n chunks len ∙ sym l) (λ i b.
    let s : i < len = omega (arith, length-bits n chunks len) in get_or-bits n chunks len i false s ∙ h i s)

pub bits-none : (n : ℕ) (chunks : List (List ℕ)) → bits n chunks 0 ≡ []
unfolding bits
bits-none n chunks = refl

-- a list of bits that all have one value
pub bits-replicate : (n : ℕ) (chunks : List (List ℕ)) (len : ℕ) (b : Bool) → ((i : ℕ) → i < len → chunks_bit n chunks i ≡ b)
    → bits n chunks len ≡ replicate len b
bits-replicate n chunks len b h =
    bits_are n chunks len (replicate len b) (length-replicate len b) (λ i s. h i s ∙ sym (get_or-replicate len i b false s))

-- lists with the same bits
pub bits-same : (n : ℕ) (xs ys : List (List ℕ)) (len : ℕ) → ((i : ℕ) → i < len → chunks_bit n ys i ≡ chunks_bit n xs i) → bits n ys len ≡ bits n xs len
bits-same n xs ys len h = bits_are n ys len (bits n xs len) (length-bits n xs len) (λ i s. h i s ∙ sym (get_or-bits n xs len i false s))

-- the length of the list
pub len_is : (n : ℕ) (chunks : List (List ℕ)) (len : ℕ) (v : List Bool) → bits n chunks len ≡ v → length v ≡ len
len_is n chunks len v e = ap length (sym e) ∙ length-bits n chunks len

-- a bit of the list is in a chunk of the list
pub at_within : (n : ℕ) (chunks : List (List ℕ)) (len : ℕ) (v : List Bool) (bit : ℕ) → 0 < n → bits n chunks len ≡ v
    → bit < length v → IsChunkCount n (length chunks) len
    → bit / (8 * n) < length chunks
at_within n chunks len v bit p e h c = index_below n (length chunks) len bit p (omega (arith, len_is n chunks len v e)) c
