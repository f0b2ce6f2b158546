-- The bits of chunks of n bytes that are joined end to end.
use Rattle.std.proofs.Common.{◌≡◌, ℕ, suc, ◌+◌, ◌-◌, ◌*◌, ◌^◌, ◌<◌, ◌≤◌, min, max, List, true, false, not, length, [], ◌∷◌, ◌++◌, sym, ap, ◌∙◌, inl, inr, arith}
use Rattle.std.specs.List.{range_with_len, count_by, list_all, slice_range, flat_map}
use Rattle.std.proofs.Math.Nat.{mul-add}
use Rattle.std.proofs.lemmas.List.{length-append}
use Rattle.std.proofs.lemmas.Bool.{cases_lt}
use Rattle.bitmap_bytes.specs.Chunk.{chunk_bits, bytes_bit}
use Rattle.bitmap_bytes.specs.Bits.{chunks_bit, bits, AreChunks}
use Rattle.bitmap_bytes.proofs.Counting.Ones.{ones_from, ones_from_add, ones_from_same, ones_from_le, count-bits}
use Rattle.bitmap_bytes.proofs.Counting.Places.{ones_from_split, none_from, rest_zero, some_left}
use Rattle.bitmap_bytes.proofs.Counting.Words.{none_chunk_slice, count-chunk}
use Rattle.bitmap_bytes.proofs.Bytes.Shifted.{bytes_bit-flat, bytes_bit-left, bytes_bit-right}

pub flat-length : (n : ℕ) (chunks : List (List ℕ)) → AreChunks n chunks → length (flat_map (λ c. c) chunks) ≡ n * length chunks
flat-length n [] h = omega arith
flat-length n (c ∷ chunks) h =
    omega (
      arith,
      length-append c (flat_map (λ x. x) chunks),
      (h 0 (omega arith)).len,
      flat-length n chunks (λ i s. h (suc i) (omega arith)),
      mul-add n (length chunks) 1,
    )

-- the bits of a range of chunks are those of their bytes
ones_of_chunks : (n : ℕ) (chunks : List (List ℕ)) (bytes : List ℕ) (a k : ℕ) → 0 < n → AreChunks n chunks
    → bytes ≡ flat_map (λ c. c) chunks → a + k ≤ 8 * n * length chunks
    → ones_from (chunks_bit n chunks) a k ≡ ones_from (bytes_bit bytes) a k
ones_of_chunks n chunks bytes a k p h e l =
    ones_from_same (chunks_bit n chunks) (bytes_bit bytes) a a k (λ t s.
    sym (ap (λ x. bytes_bit x (a + t)) e ∙ bytes_bit-flat n chunks p (λ i l. (h i l).len) (a + t)))

-- the ones of chunks are those of their bytes
pub count-flat : (n : ℕ) (chunks : List (List ℕ)) (bytes : List ℕ) → 0 < n → AreChunks n chunks → bytes ≡ flat_map (λ c. c) chunks
    → count_by (λ b. b) (chunk_bits (length bytes) bytes) ≡ ones_from (chunks_bit n chunks) 0 (8 * n * length chunks)
count-flat n chunks bytes p h e =
    let l : length bytes ≡ n * length chunks = ap length e ∙ flat-length n chunks h in
    let m : 8 * length bytes ≡ 8 * n * length chunks = ap (λ k. 8 * k) l ∙ grind arith in
    count-chunk (length bytes) bytes ∙ ap (ones_from (bytes_bit bytes) 0) m ∙ sym (ones_of_chunks n chunks bytes 0 (8 * n * length chunks) p h e (omega arith))

joined-length : (n : ℕ) (chunks : List (List ℕ)) (a b : List ℕ) → AreChunks n chunks → a ++ b ≡ flat_map (λ c. c) chunks
    → 8 * n * length chunks ≡ 8 * length a + 8 * length b
joined-length n chunks a b h e =
    let l = sym (length-append a b) ∙ ap length e ∙ flat-length n chunks h in
    let m : 8 * n * length chunks ≡ 8 * (n * length chunks) = grind arith in
    omega arith

-- the ones of chunks are those of their bytes, which are in two slices
pub count-pieces : (n : ℕ) (chunks : List (List ℕ)) (a b : List ℕ) → 0 < n → AreChunks n chunks → a ++ b ≡ flat_map (λ c. c) chunks
    → count_by (λ b. b) (bits n chunks (8 * n * length chunks))
    ≡ count_by (λ b. b) (chunk_bits (length a) a) + count_by (λ b. b) (chunk_bits (length b) b)
count-pieces n chunks a b p h e =
    let l = joined-length n chunks a b h e in
    let o = ones_of_chunks n chunks (a ++ b) 0 (8 * n * length chunks) p h e (omega arith) in
    let s = ap (λ k. ones_from (bytes_bit (a ++ b)) 0 k) l ∙ ones_from_add (bytes_bit (a ++ b)) 0 (8 * length a) (8 * length b) in
    let left = ones_from_same (bytes_bit (a ++ b)) (bytes_bit a) 0 0 (8 * length a) (λ t w. bytes_bit-left a b (0 + t) (omega arith)) in
    let right = ones_from_same (bytes_bit (a ++ b)) (bytes_bit b) (0 + 8 * length a) 0 (8 * length b) (λ t w.
    (let q : 0 + 8 * length a + t ≡ 8 * length a + (0 + t) = omega arith in ap (bytes_bit (a ++ b)) q)
    ∙ bytes_bit-right a b (0 + t)) in
    omega (arith, count-bits n chunks (8 * n * length chunks), count-chunk (length a) a, count-chunk (length b) b)

-- a range cut at s: the part in the first slice and the part in the second
range_cut : (a b : List ℕ) (from to s : ℕ) → s ≤ 8 * length a → (s < to → s ≡ 8 * length a)
    → ones_from (bytes_bit (a ++ b)) from (to - from)
    ≡ ones_from (bytes_bit a) (min from s) (min to s - min from s) + ones_from (bytes_bit b) (max from s - s) (max to s - s - (max from s - s))
range_cut a b from to s l h = elim (cases_lt to from) [
  | inl o ↦
      omega (
        arith,
        ones_from_le (bytes_bit (a ++ b)) from (to - from),
        ones_from_le (bytes_bit a) (min from s) (min to s - min from s),
        ones_from_le (bytes_bit b) (max from s - s) (max to s - s - (max from s - s)),
      )
  | inr o ↦
      let m : ℕ = max from (min to s) in
      let cut = ones_from_split (bytes_bit (a ++ b)) from m to (omega arith) (omega arith) in
      let j : m - from ≡ min to s - min from s = omega arith in
      let k : to - m ≡ max to s - s - (max from s - s) = omega arith in
      let left = ones_from_same (bytes_bit (a ++ b)) (bytes_bit a) from (min from s) (m - from) (λ t w.
      let q : from + t ≡ min from s + t = omega arith in
      ap (bytes_bit (a ++ b)) q ∙ bytes_bit-left a b (min from s + t) (omega arith)) ∙ ap (λ x. ones_from (bytes_bit a) (min from s) x) j in
      let right = ones_from_same (bytes_bit (a ++ b)) (bytes_bit b) m (max from s - s) (to - m) (λ t w.
      let e : s ≡ 8 * length a = h (omega arith) in
      let q : m + t ≡ 8 * length a + (max from s - s + t) = omega arith in
      ap (bytes_bit (a ++ b)) q ∙ bytes_bit-right a b (max from s - s + t)) ∙ ap (λ x. ones_from (bytes_bit b) (max from s - s) x) k in
      omega arith
]

-- chunks whose bytes are a and then b; b begins at this position in bits, or at 2 ^ 64 - 1 if that is less
pub record IsCut (n : ℕ) (chunks : List (List ℕ)) (a b : List ℕ) (s to : ℕ) : Type 0 where
  pub positive : 0 < n
  pub wide : AreChunks n chunks
  pub bytes : a ++ b ≡ flat_map (λ c. c) chunks
  pub place : s ≡ min (length a * 8) (2 ^ 64 - 1)
  pub within : to ≤ 8 * n * length chunks
  pub fits : to < 2 ^ 64

pub cut_is : (n : ℕ) (chunks : List (List ℕ)) (a b : List ℕ) (s to : ℕ) → 0 < n → AreChunks n chunks
    → a ++ b ≡ flat_map (λ c. c) chunks → s ≡ min (length a * 8) (2 ^ 64 - 1) → to ≤ 8 * n * length chunks → to < 2 ^ 64
    → IsCut n chunks a b s to
cut_is n chunks a b s to p h e q w f = record { positive = p; wide = h; bytes = e; place = q; within = w; fits = f }

pub cut_within : (n : ℕ) (chunks : List (List ℕ)) (a b : List ℕ) (s to : ℕ) → IsCut n chunks a b s to
    → (min to s ≤ 8 * length a) × (max to s - s ≤ 8 * length b)
cut_within n chunks a b s to c =
    let l = joined-length n chunks a b c.wide c.bytes in
    let p = c.place in
    let w = c.within in
    let f = c.fits in
    (omega arith, omega arith)

cut_ones : (n : ℕ) (chunks : List (List ℕ)) (a b : List ℕ) (s from to : ℕ) → IsCut n chunks a b s to
    → ones_from (chunks_bit n chunks) from (to - from)
    ≡ ones_from (bytes_bit a) (min from s) (min to s - min from s) + ones_from (bytes_bit b) (max from s - s) (max to s - s - (max from s - s))
cut_ones n chunks a b s from to c =
    let p = c.place in
    let w = c.within in
    let f = c.fits in
    elim (cases_lt to from) [
      | inl o ↦
          omega (
            arith,
            ones_from_le (chunks_bit n chunks) from (to - from),
            ones_from_le (bytes_bit a) (min from s) (min to s - min from s),
            ones_from_le (bytes_bit b) (max from s - s) (max to s - s - (max from s - s)),
          )
      | inr o ↦
          ones_of_chunks n chunks (a ++ b) from (to - from) c.positive c.wide c.bytes (omega arith)
          ∙ range_cut a b from to s (omega arith) (λ h. omega arith)
    ]

-- if no bit of the first part is set, the second part decides
pub none_right : (n : ℕ) (chunks : List (List ℕ)) (a b : List ℕ) (s from to : ℕ) → IsCut n chunks a b s to
    → list_all not (slice_range (chunk_bits (length a) a) (min from s) (min to s)) ≡ true
    → list_all not (slice_range (chunk_bits (length b) b) (max from s - s) (max to s - s))
    ≡ list_all (λ i. not (chunks_bit n chunks i)) (range_with_len from (to - from))
none_right n chunks a b s from to c h =
    let w = cut_within n chunks a b s to c in
    none_chunk_slice (length b) b (max from s - s) (max to s - s) w.1
    ∙ rest_zero _ _ _ (cut_ones n chunks a b s from to c) (sym (none_chunk_slice (length a) a (min from s) (min to s) w.0) ∙ h)
    ∙ sym (none_from (chunks_bit n chunks) from (to - from))

-- if a bit of the first part is set, a bit of the whole is
pub some_in_left : (n : ℕ) (chunks : List (List ℕ)) (a b : List ℕ) (s from to : ℕ) → IsCut n chunks a b s to
    → list_all not (slice_range (chunk_bits (length a) a) (min from s) (min to s)) ≡ false
    → list_all (λ i. not (chunks_bit n chunks i)) (range_with_len from (to - from)) ≡ false
some_in_left n chunks a b s from to c h =
    let w = cut_within n chunks a b s to c in
    none_from (chunks_bit n chunks) from (to - from)
    ∙ some_left _ _ _ (cut_ones n chunks a b s from to c) (sym (none_chunk_slice (length a) a (min from s) (min to s) w.0) ∙ h)
