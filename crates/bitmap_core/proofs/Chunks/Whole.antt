-- The chunks of a bitmap, read, removed and replaced whole.
use Rattle.std.proofs.Common.{◌≡◌, ℕ, ◌+◌, ◌-◌, ◌*◌, ◌/◌, ◌%◌, ◌<◌, ◌≤◌, Bool, false, List, [], length, get_or, set, take, cond, eqb, map, sym, ap, ◌∙◌, inl, inr, arith}
use Rattle.std.specs.List.{range_with_len}
use Rattle.std.proofs.Math.Nat.{lt_of_mul-lt-mul_left, mul-add, mul-div_right, mod-eq_of_lt}
use Rattle.std.proofs.lemmas.Nat.{div-mul-add, mod-mul-add, div_below}
use Rattle.std.proofs.lemmas.List.{get_or_past, length-take-le}
use Rattle.std.proofs.lemmas.Bool.{cases_lt, cases_eq, eq-eqb, ne_eqb}
use Rattle.bitmap_bytes.specs.Chunk.{byte_of, chunk_bit}
use Rattle.bitmap_bytes.specs.Bits.{chunks_bit, bits, IsChunkCount, IsZeroFrom}
use Rattle.bitmap_core.specs.PrunedBits.{chunk, plain_bits}
use Rattle.bitmap_bytes.proofs.Chunks.Bits.{chunk_bit-mod}
use Rattle.bitmap_bytes.proofs.Bytes.Made.{byte_same, map_range_same}
use Rattle.bitmap_bytes.proofs.Lists.Bits.{get_or-bits, bits-same, take-bits, len_is}
use Rattle.bitmap_bytes.proofs.Chunks.Lists.{chunks_bit-take_in, chunks_bit-set_here, chunks_bit-set_other, IsZeroFrom-count}
use Rattle.bitmap_bytes.proofs.Chunks.Places.{full_len}

-- a chunk with a bit below the length exists
pub chunk_within : (n k len i : ℕ) → 8 * n * i < len → IsChunkCount n k len → i < k
chunk_within n k len i h c = lt_of_mul-lt-mul_left (8 * n) (omega (arith, c.0))

-- every stored bit is the bit of the list, and false past the length
stored_bit : (n : ℕ) (xs : List (List ℕ)) (len : ℕ) (v : List Bool) (i : ℕ) → bits n xs len ≡ v → IsZeroFrom n xs len
    → chunks_bit n xs i ≡ get_or v i false
stored_bit n xs len v i e z = elim (cases_lt i len) [
  | inl h ↦ sym (get_or-bits n xs len i false h) ∙ ap (λ x. get_or x i false) e
  | inr h ↦ z i h ∙ sym (get_or_past v i false (omega (arith, len_is n xs len v e)))
]

-- bit t of the chunk at index i
bit_in_chunk : (n : ℕ) (xs : List (List ℕ)) (i t : ℕ) → 0 < n → t < 8 * n → chunk_bit n (get_or xs i []) t ≡ chunks_bit n xs (8 * n * i + t)
bit_in_chunk n xs i t p h =
    let e : i * (8 * n) + t ≡ 8 * n * i + t = omega arith in
    let q : (8 * n * i + t) / (8 * n) ≡ i = ap (λ x. x / (8 * n)) (sym e) ∙ div-mul-add i (8 * n) t h in
    let r : t % (8 * n) ≡ (8 * n * i + t) % (8 * n) = mod-eq_of_lt h ∙ sym (ap (λ x. x % (8 * n)) (sym e) ∙ mod-mul-add i (8 * n) t h) in
    chunk_bit-mod n (get_or xs i []) t (8 * n * i + t) p r ∙ ap (λ j. chunk_bit n (get_or xs j []) (8 * n * i + t)) (sym q)

-- a stored chunk is the chunk of the list
pub stored_chunk : (n : ℕ) (xs : List (List ℕ)) (len : ℕ) (v : List Bool) (i : ℕ) (c : List ℕ) → 0 < n → bits n xs len ≡ v
    → IsZeroFrom n xs len → c ≡ get_or xs i [] → c ≡ map (λ j. byte_of (λ t. chunk_bit n c (8 * j + t))) (range_with_len 0 n)
    → c ≡ chunk n (plain_bits v) i
stored_chunk n xs len v i c p e z r b =
    b
    ∙ map_range_same (λ j. byte_of (λ t. chunk_bit n c (8 * j + t)))
    (λ j. byte_of (λ t. get_or v (8 * n * i + 8 * j + t - 8 * n * 0) false)) 0 n (λ j _ h.
    byte_same (λ t. chunk_bit n c (8 * j + t)) (λ t. get_or v (8 * n * i + 8 * j + t - 8 * n * 0) false) (λ t s.
    ap (λ x. chunk_bit n x (8 * j + t)) r
    ∙ bit_in_chunk n xs i (8 * j + t) p (omega arith)
    ∙ stored_bit n xs len v (8 * n * i + (8 * j + t)) e z
    ∙ ap (λ k. get_or v k false) (omega arith)))

-- whole chunks: their number, and the length of all but the last
pub last_whole : (n : ℕ) (xs : List (List ℕ)) (len : ℕ) (v : List Bool) → 0 < n → IsChunkCount n (length xs) len
    → bits n xs len ≡ v → length v % (8 * n) ≡ 0 → 0 < length v
    → (length v ≡ len) × (len / (8 * n) ≡ length xs) × (0 < length xs) × (8 * n * (length xs - 1) + 8 * n ≡ len)
last_whole n xs len v p c e a f =
    let l = len_is n xs len v e in
    let w = full_len n (length xs) len p c (ap (λ x. x % (8 * n)) (sym l) ∙ a) in
    let q : len / (8 * n) ≡ length xs = ap (λ x. x / (8 * n)) w ∙ mul-div_right (length xs) (omega arith) in
    let s : 0 < length xs = lt_of_mul-lt-mul_left (8 * n) (omega arith) in
    let m : length xs - 1 + 1 ≡ length xs = omega arith in
    (l, q, s, omega (arith, mul-add (8 * n) (length xs - 1) 1, ap (λ x. 8 * n * x) m))

-- the bits without the last chunk
module _ (n : ℕ) (xs ys : List (List ℕ)) (len : ℕ) (v : List Bool) (p : 0 < n) (c : IsChunkCount n (length xs) len)
    (e : bits n xs len ≡ v) (a : length v % (8 * n) ≡ 0) (f : 0 < length v) (y : ys ≡ take (length xs - 1) xs) where
  kept_count : length ys ≡ length xs - 1
  kept_count = ap length y ∙ length-take-le (length xs - 1) xs (omega arith)

  pub IsChunkCount-last : IsChunkCount n (length ys) (len - 8 * n)
  IsChunkCount-last = let w = last_whole n xs len v p c e a f in let k = ap (λ m. 8 * n * m) kept_count in (omega (arith, w.3), omega (arith, w.3))

  pub IsZeroFrom-last : IsZeroFrom n ys (len - 8 * n)
  IsZeroFrom-last =
      let w = last_whole n xs len v p c e a f in
      IsZeroFrom-count n ys (len - 8 * n) p (omega (arith, w.3, ap (λ m. 8 * n * m) kept_count))

  pub bits-last : bits n ys (len - 8 * n) ≡ take (length v - 8 * n) v
  bits-last =
      let w = last_whole n xs len v p c e a f in
      bits-same n xs ys (len - 8 * n) (λ i s.
      ap (λ zs. chunks_bit n zs i) y
      ∙ chunks_bit-take_in n xs (length xs - 1) i (div_below i (8 * n) (length xs - 1) (omega arith) (omega (arith, w.3))))
      ∙ sym (take-bits n xs len (len - 8 * n) (omega arith)) ∙ ap (λ u. take (len - 8 * n) u) e ∙ ap (λ m. take (m - 8 * n) v) (sym w.0)

-- the bits with a chunk replaced by c
chunks_bit-replaced : (n : ℕ) (xs : List (List ℕ)) (i : ℕ) (c : List ℕ) (k : ℕ) → i < length xs
    → chunks_bit n (set xs i c) k ≡ cond (eqb (k / (8 * n)) i) (chunk_bit n c k) (chunks_bit n xs k)
chunks_bit-replaced n xs i c k h = elim (cases_eq (k / (8 * n)) i) [
  | inl e ↦ rw (eq-eqb (k / (8 * n)) i e) (chunks_bit-set_here n xs i c k h e)
  | inr d ↦ rw (ne_eqb (k / (8 * n)) i d) (chunks_bit-set_other n xs i c k d)
]

pub IsZeroFrom-replaced : (n : ℕ) (xs : List (List ℕ)) (i : ℕ) (c : List ℕ) (len : ℕ) → i < length xs
    → ((k : ℕ) → len ≤ k → k / (8 * n) ≡ i → chunk_bit n c k ≡ false) → IsZeroFrom n xs len
    → IsZeroFrom n (set xs i c) len
IsZeroFrom-replaced n xs i c len h f z k s = elim (cases_eq (k / (8 * n)) i) [
  | inl e ↦ chunks_bit-set_here n xs i c k h e ∙ f k s e
  | inr d ↦ chunks_bit-set_other n xs i c k d ∙ z k s
]

pub get_or-replaced : (n : ℕ) (xs : List (List ℕ)) (i : ℕ) (c : List ℕ) (len : ℕ) (v : List Bool) (k : ℕ) → i < length xs
    → bits n xs len ≡ v → k < length v
    → get_or (bits n (set xs i c) len) k false ≡ cond (eqb (k / (8 * n)) i) (chunk_bit n c k) (get_or v k false)
get_or-replaced n xs i c len v k h e s =
    let w : k < len = omega (arith, len_is n xs len v e) in
    get_or-bits n (set xs i c) len k false w
    ∙ chunks_bit-replaced n xs i c k h
    ∙ ap (λ x. cond (eqb (k / (8 * n)) i) (chunk_bit n c k) x) (sym (get_or-bits n xs len k false w) ∙ ap (λ x. get_or x k false) e)
