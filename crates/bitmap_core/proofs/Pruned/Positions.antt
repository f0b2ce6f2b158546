-- Bitmaps with a pruned prefix, by position.
use Rattle.std.proofs.Common.{◌≡◌, ℕ, ◌+◌, ◌-◌, ◌*◌, ◌/◌, ◌%◌, ◌<◌, ◌≤◌, Bool, false, length, get_or, refl, sym, ap, ◌∙◌, arith}
use Rattle.std.specs.Int.{div_ceil}
use Rattle.std.proofs.Math.Nat.{div-add-mod, lt_of_mul-lt-mul_left, mul-add, mul-add-div, mul-add-mod_self_left}
use Rattle.std.proofs.lemmas.List.{ext_get_or, get_or_past}
use Rattle.std.proofs.lemmas.List.FromFn.{length-map-range_with_len, get_or-map-range_with_len}
use Rattle.std.proofs.lemmas.Nat.{mul-le}
use Rattle.bitmap_bytes.specs.Bits.{IsChunkCount}
use Rattle.bitmap_bytes.specs.Chunk.{byte_of, chunk_bit}
use Rattle.bitmap_core.specs.PrunedBits.{PrunedBits, plain_bits, pruned_bits, bit_len, bit_at, IsRetained, IsRetainedChunk, from_bits, chunk}
use Rattle.bitmap_bytes.proofs.Chunks.Places.{IsChunkCount-ceil, count_unique}
use Rattle.bitmap_bytes.proofs.Chunks.Concatenated.{IsChunkCount-front}
use Rattle.bitmap_bytes.proofs.Bytes.Made.{byte_same, chunk_bit_of_bytes, map_range_same}

-- bitmaps with equal parts are equal
pub same_pruned : (a b : PrunedBits) → a.pruned ≡ b.pruned → a.bits ≡ b.bits → a ≡ b
same_pruned a b p q i = record { pruned = p i; bits = q i }

-- a position is determined by its chunk and its place in it
pub place : (w k : ℕ) → w * (k / w) + k % w ≡ k
place w k = div-add-mod k w

-- the first position of a later chunk, from that of an earlier one
pub front_of : (w p i : ℕ) → p ≤ i → w * (i - p) + w * p ≡ w * i
front_of w p i h = let d : (i - p) + p ≡ i = omega arith in sym (mul-add w (i - p) p) ∙ ap (λ m. w * m) d

-- a chunk is retained in part if its index is below the number of chunks
pub index_below_ceil : (n len i : ℕ) → 0 < n → i < div_ceil len (8 * n) → 8 * n * i < len
index_below_ceil n len i p h =
    let c = IsChunkCount-ceil n len p in
    omega (arith, c.1, mul-le (8 * n) (i + 1) (8 * n) (div_ceil len (8 * n)) (omega arith) (omega arith), mul-add (8 * n) i 1)

pub ceil_above_index : (n len i : ℕ) → 0 < n → 8 * n * i < len → i < div_ceil len (8 * n)
ceil_above_index n len i p h = let c = IsChunkCount-ceil n len p in lt_of_mul-lt-mul_left (8 * n) (omega (arith, c.0))

-- the capacity of all chunks is that of the pruned chunks plus that of the retained chunks
pub ceil_front : (n p l : ℕ) → 0 < n → 8 * n * div_ceil (8 * n * p + l) (8 * n) ≡ 8 * n * p + 8 * n * div_ceil l (8 * n)
ceil_front n p l h =
    let whole : IsChunkCount n (div_ceil (8 * n * p + l) (8 * n)) (8 * n * p + l) = IsChunkCount-ceil n (8 * n * p + l) h in
    let parts : IsChunkCount n (p + div_ceil l (8 * n)) (8 * n * p + l) = IsChunkCount-front n p (div_ceil l (8 * n)) l (IsChunkCount-ceil n l h) in
    ap (λ k. 8 * n * k) (count_unique n (div_ceil (8 * n * p + l) (8 * n)) (p + div_ceil l (8 * n)) (8 * n * p + l) whole parts)
    ∙ mul-add (8 * n) p (div_ceil l (8 * n))

-- the index of a retained chunk, counted from the first retained one
pub retained_chunk : (n : ℕ) (b : PrunedBits) (i : ℕ) → IsRetainedChunk n b i → 8 * n * (i - b.pruned) < length b.bits
retained_chunk n b i h = omega (arith, h.1, front_of (8 * n) b.pruned i h.0)

-- the place of a position in its chunk does not depend on the pruned prefix
pub rest_of_len : (n : ℕ) (b : PrunedBits) → bit_len n b % (8 * n) ≡ length b.bits % (8 * n)
rest_of_len n b = mul-add-mod_self_left (8 * n) b.pruned (length b.bits)

-- every bit past the length is false
pub bit_past : (n : ℕ) (b : PrunedBits) (k : ℕ) → bit_len n b ≤ k → bit_at n b k ≡ false
bit_past n b k h = get_or_past b.bits (k - pruned_bits n b) false (omega arith)

pub bit_from_bits : (n pruned len : ℕ) (bit : ℕ → Bool) (k : ℕ) → 8 * n * pruned ≤ k → k < len → bit_at n (from_bits n pruned len bit) k ≡ bit k
bit_from_bits n pruned len bit k l h =
    get_or-map-range_with_len bit (8 * n * pruned) (len - 8 * n * pruned) (k - 8 * n * pruned) k false (omega arith) (omega arith)

pub len_from_bits : (n pruned len : ℕ) (bit : ℕ → Bool) → 8 * n * pruned ≤ len → bit_len n (from_bits n pruned len bit) ≡ len
len_from_bits n pruned len bit h = omega (arith, length-map-range_with_len bit (8 * n * pruned) (len - 8 * n * pruned))

-- a bitmap is determined by its number of pruned chunks, its length and its bits by position
pub same_from_bits : (n : ℕ) (b : PrunedBits) (bit : ℕ → Bool) → ((k : ℕ) → IsRetained n b k → bit k ≡ bit_at n b k)
    → from_bits n b.pruned (bit_len n b) bit ≡ b
same_from_bits n b bit h =
    let count : bit_len n b - pruned_bits n b ≡ length b.bits = omega arith in
    let len = length-map-range_with_len bit (pruned_bits n b) (bit_len n b - pruned_bits n b) ∙ count in
    same_pruned (from_bits n b.pruned (bit_len n b) bit) b refl (ext_get_or false _ b.bits len (λ i l.
    let within : i < bit_len n b - pruned_bits n b = omega arith in
    let back : pruned_bits n b + i - pruned_bits n b ≡ i = omega arith in
    get_or-map-range_with_len bit (pruned_bits n b) (bit_len n b - pruned_bits n b) i (pruned_bits n b + i) false within refl
    ∙ (h (pruned_bits n b + i) (omega arith, omega arith)
    ∙ ap (λ j. get_or b.bits j false) back)))

-- bitmaps with the same bit at every position are equal
pub same_bitmap : (n : ℕ) (a b : PrunedBits) → a.pruned ≡ b.pruned → bit_len n a ≡ bit_len n b
    → ((k : ℕ) → IsRetained n b k → bit_at n a k ≡ bit_at n b k)
    → a ≡ b
same_bitmap n a b p l h =
    same_pruned a b p (ext_get_or false a.bits b.bits (omega (arith, ap (λ m. 8 * n * m) p)) (λ i s.
    let m = ap (λ x. 8 * n * x) p in
    let e : pruned_bits n b + i - pruned_bits n a ≡ i = omega arith in
    let f : pruned_bits n b + i - pruned_bits n b ≡ i = omega arith in
    ap (λ j. get_or a.bits j false) (sym e) ∙ h (pruned_bits n b + i) (omega arith, omega arith) ∙ ap (λ j. get_or b.bits j false) f))

-- chunks with the same bits are equal
chunk_same : (n : ℕ) (a b : PrunedBits) (i j : ℕ)
    → ((t : ℕ) → t < 8 * n → bit_at n a (8 * n * i + t) ≡ bit_at n b (8 * n * j + t))
    → chunk n a i ≡ chunk n b j
chunk_same n a b i j h =
    map_range_same (λ s. byte_of (λ t. bit_at n a (8 * n * i + 8 * s + t))) (λ s. byte_of (λ t. bit_at n b (8 * n * j + 8 * s + t))) 0 n (λ s _ r.
    byte_same (λ t. bit_at n a (8 * n * i + 8 * s + t)) (λ t. bit_at n b (8 * n * j + 8 * s + t)) (λ t u.
    let e : 8 * n * i + 8 * s + t ≡ 8 * n * i + (8 * s + t) = omega arith in
    let f : 8 * n * j + (8 * s + t) ≡ 8 * n * j + 8 * s + t = omega arith in
    ap (λ k. bit_at n a k) e ∙ h (8 * s + t) (omega arith) ∙ ap (λ k. bit_at n b k) f))

-- a chunk of a bitmap is a chunk of its retained bits, counted from the first retained one
pub chunk_of_bits : (n : ℕ) (b : PrunedBits) (i : ℕ) → b.pruned ≤ i → chunk n (plain_bits b.bits) (i - b.pruned) ≡ chunk n b i
chunk_of_bits n b i h =
    let f = front_of (8 * n) b.pruned i h in
    chunk_same n (plain_bits b.bits) b (i - b.pruned) i (λ t s. ap (λ k. get_or b.bits k false) (omega arith))

pub last_chunk_of_bits : (n : ℕ) (b : PrunedBits) → 0 < n → length b.bits % (8 * n) ≡ 0 → 0 < length b.bits
    → chunk n (plain_bits b.bits) (length b.bits / (8 * n) - 1) ≡ chunk n b (bit_len n b / (8 * n) - 1)
last_chunk_of_bits n b p a f =
    let q : bit_len n b / (8 * n) ≡ b.pruned + length b.bits / (8 * n) = mul-add-div (omega arith) b.pruned (length b.bits) in
    let s : 0 < length b.bits / (8 * n) = lt_of_mul-lt-mul_left (8 * n) (omega (arith, place (8 * n) (length b.bits))) in
    ap (λ i. chunk n (plain_bits b.bits) i) (omega arith) ∙ chunk_of_bits n b (bit_len n b / (8 * n) - 1) (omega arith)

-- the bits of a chunk's bytes are the bits of the chunk
pub chunk_bit_of_chunk : (n : ℕ) (b : PrunedBits) (i t : ℕ) → 0 < n → t < 8 * n → chunk_bit n (chunk n b i) t ≡ bit_at n b (8 * n * i + t)
chunk_bit_of_chunk n b i t p h =
    ap (λ c. chunk_bit n c t) (map_range_same
    (λ j. byte_of (λ s. bit_at n b (8 * n * i + 8 * j + s)))
    (λ j. byte_of (λ s. bit_at n b (8 * n * i + (8 * j + s)))) 0 n
    (λ j _ _. byte_same (λ s. bit_at n b (8 * n * i + 8 * j + s)) (λ s. bit_at n b (8 * n * i + (8 * j + s)))
    (λ s _. ap (λ k. bit_at n b k) (omega arith))))
    ∙ chunk_bit_of_bytes n (λ s. bit_at n b (8 * n * i + s)) t p h
