-- Chunks in place, as a slice: their bits are bits of the bitmap, and wanted bits are counted in parts of the slice.
use Rattle.std.proofs.Common.{◌≡◌, ℕ, suc, zero, ◌+◌, ◌-◌, ◌*◌, ◌/◌, ◌%◌, ◌<◌, ◌≤◌, min, Bool, true, false, not, cond, List, [], length, get_or, take, drop, refl, sym, ap, ◌∙◌, ◌⊎◌, inl, inr, eqb, arith}
use Rattle.std.specs.Int.{bit_at}
use Rattle.std.specs.List.{count_by, range_with_len, flat_map}
use Rattle.std.specs.Simd.{first_chunks}
use Rattle.std.proofs.Math.Nat.{mul-add, mul-mod_left, mul-mod_right, add-mul-mod_self_right, lt_of_mul-lt-mul_left, mul-le-mul_left}
use Rattle.std.proofs.lemmas.Nat.{div-add-mod', mod_below}
use Rattle.std.proofs.lemmas.List.{get_or-take, get_or-drop, length-take, length-drop}
use Rattle.std.proofs.lemmas.Bool.{cases_lt}
use Rattle.bitmap_bytes.specs.Bits.{chunks_bit, AreChunks}
use Rattle.bitmap_bytes.specs.Chunk.{chunk_bit, chunk_bits, bytes_bit, is_wanted}
use Rattle.bitmap_bytes.proofs.Bytes.Bits.{bit_of_zero_byte}
use Rattle.bitmap_bytes.proofs.Bytes.Shifted.{bytes_bit-flat}
use Rattle.bitmap_bytes.proofs.Chunks.OfBytes.{chunks_bit-first_chunks, length-first_chunks}
use Rattle.bitmap_bytes.proofs.Counting.Blocks.{block_bit}
use Rattle.bitmap_bytes.proofs.Counting.Ones.{ones_from, ones_from_add, ones_from_same, ones_from_le}
use Rattle.bitmap_bytes.proofs.Counting.Parts.{count_range}
use Rattle.bitmap_core.specs.Meaning.{Meaning, ShowsChunk, seen_as}
use Rattle.bitmap_core.proofs.Counting.JoinedChunks.{count-flat, flat-length}

-- ---- wanted bits

-- each position passes or fails
ones_from_not : (f : ℕ → Bool) (a k : ℕ) → ones_from (λ i. not (f i)) a k + ones_from f a k ≡ k
ones_from_not f a zero = refl
ones_from_not f a (suc k) = omega (arith, one_of_both (f a), ones_from_not f (a + 1) k)
  where
    one_of_both : (b : Bool) → cond (not b) 1 0 + cond b 1 0 ≡ 1
    one_of_both true = refl
    one_of_both false = refl

-- if no position passes, a given one does not
pub clear_at : (f : ℕ → Bool) (a k i : ℕ) → ones_from f a k ≡ 0 → a ≤ i → i < a + k → f i ≡ false
clear_at f a zero i e l h = absurd (omega arith)
clear_at f a (suc k) i e l h = elim (cases_lt a i) [
  | inl lt ↦ clear_at f (a + 1) k i (omega arith) (omega arith) (omega arith)
  | inr ge ↦ (let q : i ≡ a = omega arith in ap f q ∙ first_clear (f a) (ones_from f (a + 1) k) e)
]
  where
    first_clear : (b : Bool) (n : ℕ) → cond b 1 0 + n ≡ 0 → b ≡ false
    first_clear true n e = absurd (omega arith)
    first_clear false n e = refl

module _ (n : ℕ) (chunks : List (List ℕ)) (bytes : List ℕ) (wanted : Bool) (ones : ℕ) (positive : 0 < n) (known : AreChunks n chunks)
    (flat : bytes ≡ flat_map (λ c. c) chunks) (counted : ones ≡ count_by (λ b. b) (chunk_bits (length bytes) bytes)) where
  ones_are : ones ≡ ones_from (chunks_bit n chunks) 0 (8 * n * length chunks)
  ones_are = counted ∙ count-flat n chunks bytes positive known flat

  pub ones_within : ones ≤ 8 * n * length chunks
  ones_within = omega (arith, ones_are, ones_from_le (chunks_bit n chunks) 0 (8 * n * length chunks))

  pub wanted_set : wanted ≡ true → ones ≡ count_by (λ i. is_wanted wanted (chunks_bit n chunks i)) (range_with_len 0 (8 * n * length chunks))
  wanted_set e =
      ones_are
      ∙ sym (count_range (chunks_bit n chunks) 0 (8 * n * length chunks))
      ∙ ap (λ w. count_by (λ i. is_wanted w (chunks_bit n chunks i)) (range_with_len 0 (8 * n * length chunks))) (sym e)

  pub wanted_unset : wanted ≡ false → 8 * n * length chunks - ones ≡ count_by (λ i. is_wanted wanted (chunks_bit n chunks i)) (range_with_len 0 (8 * n * length chunks))
  wanted_unset e =
      omega (arith, ones_are, ones_from_not (chunks_bit n chunks) 0 (8 * n * length chunks), count_range (λ i. not (chunks_bit n chunks i)) 0 (8 * n * length chunks))
      ∙ ap (λ w. count_by (λ i. is_wanted w (chunks_bit n chunks i)) (range_with_len 0 (8 * n * length chunks))) (sym e)

-- ---- parts of a slice

-- the bits of the chunk at index j, counted from bit 0 of the slice
place_of : (n d i : ℕ) → 0 < n → (8 * n * (d + i / (8 * n)) + i % (8 * n) ≡ 8 * n * d + i) × (i % (8 * n) < 8 * n)
place_of n d i p = (omega (arith, mul-add (8 * n) d (i / (8 * n)), div-add-mod' i (8 * n)), mod_below i (8 * n) (omega arith))

index_in : (n k i : ℕ) → 0 < n → i < 8 * n * k → i / (8 * n) < k
index_in n k i p h = lt_of_mul-lt-mul_left (8 * n) (omega (arith, div-add-mod' i (8 * n)))

-- a bit of a part of some chunks that begins at index d
pub part_bit : (n d : ℕ) (chunks part : List (List ℕ)) → 0 < n → ((j : ℕ) → j < length part → get_or part j [] ≡ get_or chunks (d + j) [])
    → (i : ℕ) → i < 8 * n * length part → chunks_bit n part i ≡ chunks_bit n chunks (8 * n * d + i)
part_bit n d chunks part p items i h =
    let j : ℕ = i / (8 * n) in
    let t : ℕ = i % (8 * n) in
    let w : t < 8 * n = (place_of n d i p).1 in
    let e : i ≡ 8 * n * j + t = omega (arith, div-add-mod' i (8 * n)) in
    ap (chunks_bit n part) e
    ∙ block_bit n part j t p w
    ∙ ap (λ c. chunk_bit n c t) (items j (index_in n (length part) i p h))
    ∙ sym (block_bit n chunks (d + j) t p w)
    ∙ ap (chunks_bit n chunks) (place_of n d i p).0

-- the chunks of a range of indices
pub part_items : (k d : ℕ) (xs : List (List ℕ)) (j : ℕ) → j < length (take k (drop d xs)) → get_or (take k (drop d xs)) j [] ≡ get_or xs (d + j) []
part_items k d xs j h =
    get_or-take k (drop d xs) j [] (omega (arith, length-take k (drop d xs))) ∙ get_or-drop d xs j []

pub part_length : (k d : ℕ) (xs : List (List ℕ)) → d + k ≤ length xs → length (take k (drop d xs)) ≡ k
part_length k d xs h = omega (arith, length-take k (drop d xs), length-drop d xs)

-- the wanted bits of the first d chunks, and of k more
pub more_wanted : (n d k size : ℕ) (chunks : List (List ℕ)) (wanted : Bool) (total more : ℕ) → 0 < n → d + k ≤ length chunks → k ≡ size
    → total ≡ ones_from (λ i. is_wanted wanted (chunks_bit n chunks i)) 0 (8 * n * d)
    → more ≡ count_by (λ i. is_wanted wanted (chunks_bit n (take k (drop d chunks)) i)) (range_with_len 0 (8 * n * length (take k (drop d chunks))))
    → total + more ≡ ones_from (λ i. is_wanted wanted (chunks_bit n chunks i)) 0 (8 * n * (d + size))
more_wanted n d k size chunks wanted total more p h q s e =
    let part : List (List ℕ) = take k (drop d chunks) in
    let f : ℕ → Bool = λ i. is_wanted wanted (chunks_bit n chunks i) in
    let g : ℕ → Bool = λ i. is_wanted wanted (chunks_bit n part i) in
    let same : ones_from g 0 (8 * n * length part) ≡ ones_from f (0 + 8 * n * d) (8 * n * length part) =
    ones_from_same g f 0 (0 + 8 * n * d) (8 * n * length part) (λ t h.
    let z : 8 * n * d + (0 + t) ≡ 0 + 8 * n * d + t = omega arith in
    ap (is_wanted wanted) (part_bit n d chunks part p (part_items k d chunks) (0 + t) (omega arith) ∙ ap (chunks_bit n chunks) z)) in
    let whole : 8 * n * d + 8 * n * length part ≡ 8 * n * (d + size) =
    sym (mul-add (8 * n) d (length part)) ∙ ap (λ k. 8 * n * (d + k)) (part_length k d chunks h ∙ q) in
    omega (arith, s, e, same, count_range g 0 (8 * n * length part), ones_from_add f 0 (8 * n * d) (8 * n * length part)) ∙ ap (ones_from f 0) whole

-- if k chunks have no wanted bit, no bit of them is wanted
pub none_wanted : (n d k : ℕ) (chunks : List (List ℕ)) (wanted : Bool) → 0 < n → d + k ≤ length chunks
    → count_by (λ i. is_wanted wanted (chunks_bit n (take k (drop d chunks)) i)) (range_with_len 0 (8 * n * length (take k (drop d chunks)))) ≡ 0
    → (i : ℕ) → 8 * n * d ≤ i → i < 8 * n * (d + k) → is_wanted wanted (chunks_bit n chunks i) ≡ false
none_wanted n d k chunks wanted p b e i l h =
    let part : List (List ℕ) = take k (drop d chunks) in
    let g : ℕ → Bool = λ i. is_wanted wanted (chunks_bit n part i) in
    let t : ℕ = i - 8 * n * d in
    let w : t < 8 * n * length part = omega (arith, mul-add (8 * n) d k, ap (λ k. 8 * n * k) (part_length k d chunks b)) in
    let at : 8 * n * d + t ≡ i = omega arith in
    ap (λ k. is_wanted wanted (chunks_bit n chunks k)) (sym at)
    ∙ ap (is_wanted wanted) (sym (part_bit n d chunks part p (part_items k d chunks) t w))
    ∙ clear_at g 0 (8 * n * length part) t (sym (count_range g 0 (8 * n * length part)) ∙ e) (omega arith) (omega arith)

-- ---- words of 64 bits of a slice

-- the words of some bytes that are whole words
whole_words : (n count : ℕ) → (n % 8 ≡ 0) ⊎ (count % 8 ≡ 0) → 64 * (n * count / 8) ≡ 8 * n * count
whole_words n count h =
    let e : 8 * n * count ≡ 8 * (n * count) = grind arith in
    elim h [
      | inl z ↦
          let q : n ≡ n / 8 * 8 = omega arith in
          let w : n / 8 * 8 * count ≡ n / 8 * count * 8 = grind arith in
          omega (arith, ap (λ k. k * count) q, w)
      | inr z ↦
          let q : count ≡ count / 8 * 8 = omega arith in
          let w : n * (count / 8 * 8) ≡ n * (count / 8) * 8 = grind arith in
          omega (arith, ap (λ k. n * k) q, w)
    ]

module _ (n count : ℕ) (chunks part words : List (List ℕ)) (bytes : List ℕ) (positive : 0 < n) (known : AreChunks n part) (size : length part ≡ count)
    (items : (j : ℕ) → j < length part → get_or part j [] ≡ get_or chunks (0 + j) []) (flat : bytes ≡ flat_map (λ c. c) part)
    (are : words ≡ first_chunks 8 (length bytes / 8) bytes) (whole : (n % 8 ≡ 0) ⊎ (count % 8 ≡ 0)) where
  words_size : 64 * length words ≡ 8 * n * count
  words_size =
      let l : length bytes ≡ n * count = ap length flat ∙ flat-length n part known ∙ ap (λ k. n * k) size in
      ap (λ w. 64 * length w) are
      ∙ ap (λ k. 64 * k) (length-first_chunks 8 (length bytes / 8) bytes ∙ ap (λ k. k / 8) l)
      ∙ whole_words n count whole

  -- they end with a chunk
  pub words_whole : 64 * length words % (8 * n) ≡ 0
  words_whole = ap (λ k. k % (8 * n)) words_size ∙ mul-mod_right (8 * n) count

  pub words_within : count ≤ length chunks → 64 * length words ≤ 8 * n * length chunks
  words_within h = omega (arith, words_size, mul-le-mul_left (8 * n) h)

  pub words_most : length chunks ≤ count + 7 → 8 * n * length chunks ≤ 64 * length words + 56 * n
  words_most h =
      let e : 8 * n * (count + 7) ≡ 8 * n * count + 56 * n = grind arith in
      omega (arith, words_size, e, mul-le-mul_left (8 * n) h)

  pub words_all : count ≡ length chunks → 64 * length words ≡ 8 * n * length chunks
  words_all h = words_size ∙ ap (λ k. 8 * n * k) h

  -- their bits are those of the chunks
  pub words_bit : (i : ℕ) → i < 64 * length words → chunks_bit 8 words i ≡ chunks_bit n chunks i
  words_bit i h =
      let l : length words ≡ length bytes / 8 = ap length are ∙ length-first_chunks 8 (length bytes / 8) bytes in
      let k : i / (8 * 8) < length bytes / 8 = omega arith in
      let s : i < 8 * n * length part = omega (arith, words_size, ap (λ k. 8 * n * k) size) in
      let z : 8 * n * 0 + i ≡ i = omega arith in
      ap (λ w. chunks_bit 8 w i) are
      ∙ chunks_bit-first_chunks 8 (length bytes / 8) bytes i (omega arith) k
      ∙ ap (λ b. bytes_bit b i) flat
      ∙ bytes_bit-flat n part positive (λ j w. (known j w).len) i
      ∙ part_bit n 0 chunks part positive items i s
      ∙ ap (chunks_bit n chunks) z

-- a multiple of w after a multiple of w
pub aligned_after : (w at k : ℕ) → at % w ≡ 0 → k % w ≡ 0 → (at + k) % w ≡ 0
aligned_after w at k a b =
    let e : k ≡ k / w * w = omega (arith, div-add-mod' k w) in
    ap (λ x. (at + x) % w) e ∙ add-mul-mod_self_right at (k / w) w ∙ a

-- a loaded word in place: its bits, counted from the first word
pub word_in_place : (words : List (List ℕ)) (wanted : Bool) (index word : ℕ)
    → ((t : ℕ) → t < 64 → eqb (bit_at word t) 1 ≡ is_wanted wanted (chunk_bit 8 (get_or words index []) (0 + t)))
    → (t : ℕ) → t < 64 → eqb (bit_at word t) 1 ≡ is_wanted wanted (chunks_bit 8 words (64 * index + t))
word_in_place words wanted index word bits t h =
    let z : 0 + t ≡ t = omega arith in
    bits t h ∙ ap (is_wanted wanted) (ap (chunk_bit 8 (get_or words index [])) z ∙ sym (block_bit 8 words index t (omega arith) h))

-- the words without a wanted bit are one more after a word that is 0
pub one_more_clear : (words : List (List ℕ)) (wanted : Bool) (index word : ℕ) → word ≡ 0
    → ((t : ℕ) → t < 64 → eqb (bit_at word t) 1 ≡ is_wanted wanted (chunks_bit 8 words (64 * index + t)))
    → ((i : ℕ) → i < 64 * index → is_wanted wanted (chunks_bit 8 words i) ≡ false)
    → (i : ℕ) → i < 64 * (index + 1) → is_wanted wanted (chunks_bit 8 words i) ≡ false
one_more_clear words wanted index word z bits before i h = elim (cases_lt i (64 * index)) [
  | inl lt ↦ before i lt
  | inr ge ↦
      let e : 64 * index + (i - 64 * index) ≡ i = omega arith in
      ap (λ k. is_wanted wanted (chunks_bit 8 words k)) (sym e) ∙ sym (bits (i - 64 * index) (omega arith)) ∙ bit_of_zero_byte word (i - 64 * index) z
]

-- ---- chunks of a bitmap

-- a bit of consecutive chunks of a bitmap, of which the first has index `first`
pub shown_bits : (n : ℕ) (m : Meaning) (first : ℕ) (chunks : List (List ℕ)) → 0 < n
    → ((i : ℕ) → i < length chunks → ShowsChunk n m (first + i) (get_or chunks i []))
    → (k : ℕ) → k < 8 * n * length chunks → 8 * n * first + k < m.len → chunks_bit n chunks k ≡ m.bit (8 * n * first + k)
shown_bits n m first chunks p shown k h s =
    let j : ℕ = k / (8 * n) in
    let t : ℕ = k % (8 * n) in
    let place = place_of n first k p in
    let e : k ≡ 8 * n * j + t = omega (arith, div-add-mod' k (8 * n)) in
    ap (chunks_bit n chunks) e
    ∙ block_bit n chunks j t p place.1
    ∙ shown j (index_in n (length chunks) k p h) t place.1 (omega (arith, place.0))
    ∙ ap m.bit place.0

-- a bit of k of these chunks from index d on, where position `at` is the first of them
pub held_bits : (n : ℕ) (m : Meaning) (first at d k : ℕ) (chunks : List (List ℕ)) → 0 < n
    → ((i : ℕ) → i < length chunks → ShowsChunk n m (first + i) (get_or chunks i []))
    → at ≡ 8 * n * (first + d) → d + k ≤ length chunks → at + 8 * n * k ≤ m.len
    → (i : ℕ) → i < 8 * n * length (take k (drop d chunks)) → chunks_bit n (take k (drop d chunks)) i ≡ m.bit (at + i)
held_bits n m first at d k chunks p shown a b s i h =
    let size : 8 * n * length (take k (drop d chunks)) ≡ 8 * n * k = ap (λ k. 8 * n * k) (part_length k d chunks b) in
    let all : 8 * n * (d + k) ≤ 8 * n * length chunks = mul-le-mul_left (8 * n) b in
    let place : 8 * n * first + (8 * n * d + i) ≡ at + i = omega (arith, a, mul-add (8 * n) first d) in
    part_bit n d chunks (take k (drop d chunks)) p (part_items k d chunks) i h
    ∙ shown_bits n m first chunks p shown (8 * n * d + i) (omega (arith, all, size, mul-add (8 * n) d k)) (omega (arith, place, size))
    ∙ ap m.bit place

-- the whole chunks from position `at` up to `end`, among `len` chunks of which the first has index `first`
pub whole_within : (n at end len index first count : ℕ) → at ≤ end → (first ≤ index) × (index < first + len)
    → count ≡ min ((end - at) / (8 * n)) (len - (index - first))
    → (index - first + (index - first + count - (index - first)) ≤ len) × (at + 8 * n * (index - first + count - (index - first)) ≤ end)
whole_within n at end len index first count l i e =
    let q : index - first + count - (index - first) ≡ count = omega arith in
    let few : count ≤ (end - at) / (8 * n) = omega arith in
    let most : 8 * n * count ≤ 8 * n * ((end - at) / (8 * n)) = mul-le-mul_left (8 * n) few in
    (omega (arith, i), omega (arith, most, ap (λ k. 8 * n * k) q, div-add-mod' (end - at) (8 * n)))

-- the chunks of a bitmap up to index `index`, of which the first has index `first`
pub whole_below : (n pruned top len index first : ℕ) → 0 < n → 0 < top → top % (8 * n) ≡ 0 → index ≡ (top - 1) / (8 * n)
    → pruned ≤ first → (first ≤ index) × (index < first + len)
    → (index - first + 1 ≤ len) × (8 * n * first + 8 * n * (index - first + 1) ≡ top) × (8 * n * pruned ≤ 8 * n * first)
whole_below n pruned top len index first p s a q l i =
    let w : (top - 1) % (8 * n) < 8 * n = mod_below (top - 1) (8 * n) (omega arith) in
    let d : (top - 1) / (8 * n) * (8 * n) + (top - 1) % (8 * n) ≡ top - 1 = div-add-mod' (top - 1) (8 * n) in
    let e : top / (8 * n) * (8 * n) + top % (8 * n) ≡ top = div-add-mod' top (8 * n) in
    let up : top / (8 * n) < index + 1 + 1 = lt_of_mul-lt-mul_left (8 * n) (omega (arith, mul-add (8 * n) index 1, mul-add (8 * n) (index + 1) 1, ap (λ k. 8 * n * k) q)) in
    let down : index < top / (8 * n) = lt_of_mul-lt-mul_left (8 * n) (omega (arith, ap (λ k. 8 * n * k) q)) in
    let next : top / (8 * n) ≡ index + 1 = omega arith in
    let whole : first + (index - first + 1) ≡ index + 1 = omega (arith, i) in (
      omega (arith, i),
      sym (mul-add (8 * n) first (index - first + 1)) ∙ ap (λ k. 8 * n * k) (whole ∙ sym next) ∙ omega (arith, a),
      mul-le-mul_left (8 * n) l,
    )

-- the wanted positions up to some chunks, and in these chunks
pub chunks_more : (n : ℕ) (m : Meaning) (wanted : Bool) (first at size : ℕ) (chunks : List (List ℕ)) (total : ℕ) → first ≤ at
    → ((i : ℕ) → i < size → chunks_bit n chunks i ≡ m.bit (at + i))
    → total ≡ count_by (λ i. is_wanted wanted (chunks_bit n chunks i)) (range_with_len 0 size)
    → ones_from (seen_as wanted m).bit first (at + size - first) ≡ ones_from (seen_as wanted m).bit first (at - first) + total
chunks_more n m wanted first at size chunks total l bits e =
    let f : ℕ → Bool = (seen_as wanted m).bit in
    let g : ℕ → Bool = λ i. is_wanted wanted (chunks_bit n chunks i) in
    let d : at + size - first ≡ (at - first) + size = omega arith in
    let a : first + (at - first) ≡ at = omega arith in
    let same : ones_from g 0 size ≡ ones_from f at size = ones_from_same g f 0 at size (λ t h.
    let z : at + (0 + t) ≡ at + t = omega arith in
    ap (is_wanted wanted) (bits (0 + t) (omega arith) ∙ ap m.bit z)) in
    ap (ones_from f first) d
    ∙ ones_from_add f first (at - first) size
    ∙ ap (λ x. ones_from f first (at - first) + ones_from f x size) a
    ∙ omega (arith, same, e, count_range g 0 size)

-- the same for the first `count` chunks of a slice
pub first_more : (n : ℕ) (m : Meaning) (wanted : Bool) (first at count : ℕ) (chunks : List (List ℕ)) (total : ℕ) → first ≤ at → count ≤ length chunks
    → ((i : ℕ) → i < 8 * n * length chunks → chunks_bit n chunks i ≡ m.bit (at + i))
    → total ≡ count_by (λ i. is_wanted wanted (chunks_bit n chunks i)) (range_with_len 0 (8 * n * count))
    → ones_from (seen_as wanted m).bit first (at + 8 * n * count - first) ≡ ones_from (seen_as wanted m).bit first (at - first) + total
first_more n m wanted first at count chunks total l w bits e =
    chunks_more n m wanted first at (8 * n * count) chunks total l (λ i h. bits i (omega (arith, mul-le-mul_left (8 * n) w))) e

-- the bits of the last `count` chunks of a slice that ends at `base`, and those after it
pub none_from_chunks : (n : ℕ) (m : Meaning) (wanted : Bool) (base end count : ℕ) (chunks : List (List ℕ)) → count ≤ length chunks → 8 * n * length chunks ≤ base
    → ((i : ℕ) → i < 8 * n * length chunks → chunks_bit n chunks i ≡ m.bit (base - 8 * n * length chunks + i))
    → ((i : ℕ) → 8 * n * (length chunks - count) ≤ i → i < 8 * n * length chunks → is_wanted wanted (chunks_bit n chunks i) ≡ false)
    → ((i : ℕ) → base ≤ i → i < end → (seen_as wanted m).bit i ≡ false)
    → (i : ℕ) → base - 8 * n * count ≤ i → i < end → (seen_as wanted m).bit i ≡ false
none_from_chunks n m wanted base end count chunks w l bits none after i low high = elim (cases_lt i base) [
  | inl lt ↦
      let whole : length chunks - count + count ≡ length chunks = omega arith in
      let most : 8 * n * count ≤ 8 * n * length chunks = mul-le-mul_left (8 * n) w in
      let k : ℕ = i - (base - 8 * n * length chunks) in
      let inside : k < 8 * n * length chunks = omega arith in
      let past : 8 * n * (length chunks - count) ≤ k = omega (arith, mul-add (8 * n) (length chunks - count) count, ap (λ x. 8 * n * x) whole) in
      let at : base - 8 * n * length chunks + k ≡ i = omega arith in
      ap (is_wanted wanted) (sym (bits k inside ∙ ap m.bit at)) ∙ none k past inside
  | inr ge ↦ after i ge high
]

-- a chunk begins where the chunk of a position begins
pub start_aligned : (w k : ℕ) → (k - k % w) % w ≡ 0
start_aligned w k =
    let e : k - k % w ≡ k / w * w = omega (arith, div-add-mod' k w) in
    ap (λ x. x % w) e ∙ mul-mod_left (k / w) w
