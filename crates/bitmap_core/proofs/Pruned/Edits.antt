-- The length, the bits and the chunks of an edited bitmap with a pruned prefix.
use Rattle.std.proofs.Common.{◌≡◌, ℕ, ◌+◌, ◌-◌, ◌*◌, ◌/◌, ◌%◌, ◌^◌, ◌<◌, ◌≤◌, Bool, false, cond, List, [], ◌∷◌, ◌++◌, length, get_or, map, take, replicate, refl, sym, ap, ◌∙◌, inl, inr, eqb, ltb, Result, Ok, Err, OnOk, OnErr, arith}
use Rattle.std.proofs.Math.Nat.{mod-mod, mul-add, mul-add-div, mul-add-mod_self_left}
use Rattle.std.proofs.lemmas.Nat.{div_below, mod_below}
use Rattle.std.proofs.lemmas.List.{length-append, length-take, length-take-le, length-drop, length-set, length-replicate, get_or_append_left, get_or-append_right, get_or_push, get_or_past, get_or-take, get_or-drop, get_or-set_same, get_or-set_other, get_or-replicate}
use Rattle.std.proofs.lemmas.Bool.{cases_lt, cases_eq, cases_order, eq-eqb, ne_eqb, lt-ltb, le-ltb}
use Rattle.std.proofs.lemmas.List.FromFn.{length-map-range_with_len, get_or-map-range_with_len}
use Rattle.std.specs.List.{flat_map, range_with_len}
use Rattle.bitmap_bytes.specs.Chunk.{chunk_bit, chunk_bits}
use Rattle.bitmap_bytes.specs.Bits.{chunks_bit}
use Rattle.bitmap_core.specs.PrunedBits.{PrunedBits, pruned_bits, bit_len, bit_at, IsRetained, chunk, pushed, popped, set_at, appended, extended, truncated, pruned_to, unpruned, with_chunk}
use Rattle.bitmap_bytes.proofs.Chunks.Bits.{chunk_bit-mod}
use Rattle.bitmap_bytes.proofs.Chunks.Concatenated.{length-front_bits, get_or-front_bits}
use Rattle.bitmap_core.proofs.Pruned.Positions.{same_pruned, same_bitmap, bit_past, bit_from_bits, len_from_bits, front_of, place, chunk_bit_of_chunk}

-- lengths
pub len_pushed : (n : ℕ) (b : PrunedBits) (x : Bool) → bit_len n (pushed b x) ≡ bit_len n b + 1
len_pushed n b x = omega (arith, length-append b.bits (x ∷ []))

pub len_set : (n : ℕ) (b : PrunedBits) (j : ℕ) (x : Bool) → bit_len n (set_at n b j x) ≡ bit_len n b
len_set n b j x = omega (arith, length-set b.bits (j - pruned_bits n b) x)

pub len_truncated : (n : ℕ) (b : PrunedBits) (len : ℕ) → pruned_bits n b ≤ len → len ≤ bit_len n b → bit_len n (truncated n b len) ≡ len
len_truncated n b len l h = omega (arith, length-take-le (len - pruned_bits n b) b.bits (omega arith))

pub len_appended : (n : ℕ) (b : PrunedBits) (more : List Bool) → bit_len n (appended b more) ≡ bit_len n b + length more
len_appended n b more = omega (arith, length-append b.bits more)

len_with_chunk : (n : ℕ) (b : PrunedBits) (i : ℕ) (bytes : List ℕ) → bit_len n (with_chunk n b i bytes) ≡ bit_len n b
len_with_chunk n b i bytes =
    len_from_bits n b.pruned (bit_len n b) (λ k. cond (eqb (k / (8 * n)) i) (chunk_bit n bytes k) (bit_at n b k)) (omega arith)

pub len_pruned_to : (n : ℕ) (b : PrunedBits) (i : ℕ) → 8 * n * i ≤ bit_len n b → bit_len n (pruned_to n b i) ≡ bit_len n b
len_pruned_to n b i h = elim (cases_lt b.pruned i) [
  | inl m ↦ rw (lt-ltb b.pruned i m) (let f = front_of (8 * n) b.pruned i (omega arith) in omega (arith, length-drop (8 * n * (i - b.pruned)) b.bits))
  | inr m ↦ rw (le-ltb b.pruned i m) refl
]

-- bits by position
pub bit_pushed : (n : ℕ) (b : PrunedBits) (x : Bool) (k : ℕ) → pruned_bits n b ≤ k
    → bit_at n (pushed b x) k ≡ cond (eqb k (bit_len n b)) x (bit_at n b k)
bit_pushed n b x k h = elim (cases_order k (bit_len n b)) [
  | inl e ↦ rw (eq-eqb k (bit_len n b) e) (get_or_push b.bits x false (k - pruned_bits n b) (omega arith))
  | inr (inl l) ↦
      rw (ne_eqb k (bit_len n b) (λ e. absurd (omega arith))) (get_or_append_left b.bits (x ∷ []) false (k - pruned_bits n b) (omega arith))
  | inr (inr l) ↦
      let past = get_or_past (b.bits ++ x ∷ []) (k - pruned_bits n b) false (omega (arith, length-append b.bits (x ∷ []))) in
      rw (ne_eqb k (bit_len n b) (λ e. absurd (omega arith))) (past ∙ sym (bit_past n b k (omega arith)))
]

pub bit_truncated : (n : ℕ) (b : PrunedBits) (len k : ℕ) → pruned_bits n b ≤ k
    → bit_at n (truncated n b len) k ≡ cond (ltb k len) (bit_at n b k) false
bit_truncated n b len k h = elim (cases_lt k len) [
  | inl l ↦ rw (lt-ltb k len l) (get_or-take (len - pruned_bits n b) b.bits (k - pruned_bits n b) false (omega arith))
  | inr l ↦
      let fewer = length-take (len - pruned_bits n b) b.bits in
      rw (le-ltb k len l) (get_or_past (take (len - pruned_bits n b) b.bits) (k - pruned_bits n b) false (omega (arith, fewer)))
]

-- a pop is a truncation
pub popped_is : (n : ℕ) (b : PrunedBits) → popped b ≡ truncated n b (bit_len n b - 1)
popped_is n b = same_pruned (popped b) (truncated n b (bit_len n b - 1)) refl (ap (λ m. take m b.bits) (omega arith))

pub bit_set : (n : ℕ) (b : PrunedBits) (j : ℕ) (x : Bool) (k : ℕ) → IsRetained n b j → pruned_bits n b ≤ k
    → bit_at n (set_at n b j x) k ≡ cond (eqb k j) x (bit_at n b k)
bit_set n b j x k ok h = elim (cases_eq k j) [
  | inl e ↦ rw (eq-eqb k j e, e) (get_or-set_same b.bits (j - pruned_bits n b) x false (omega (arith, ok.0, ok.1)))
  | inr ne ↦ rw (ne_eqb k j ne) (get_or-set_other b.bits (j - pruned_bits n b) (k - pruned_bits n b) x false (λ e. ne (omega (arith, ok.0, e))))
]

pub bit_pruned : (n : ℕ) (b : PrunedBits) (i k : ℕ) → b.pruned ≤ i → 8 * n * i ≤ k → bit_at n (pruned_to n b i) k ≡ bit_at n b k
bit_pruned n b i k l h = elim (cases_lt b.pruned i) [
  | inl m ↦
      let front = front_of (8 * n) b.pruned i l in
      let place : 8 * n * (i - b.pruned) + (k - 8 * n * i) ≡ k - pruned_bits n b = omega arith in
      rw (lt-ltb b.pruned i m) (get_or-drop (8 * n * (i - b.pruned)) b.bits (k - 8 * n * i) false ∙ ap (λ j. get_or b.bits j false) place)
  | inr m ↦ rw (le-ltb b.pruned i m) refl
]

zeros : (m i : ℕ) → get_or {A = Bool} (replicate m false) i false ≡ false
zeros m i = elim (cases_lt i m) [
  | inl l ↦ get_or-replicate {A = Bool} m i false false l
  | inr l ↦ get_or_past {X = Bool} (replicate m false) i false (omega (arith, length-replicate {A = Bool} m false))
]

pub bit_extended : (n : ℕ) (b : PrunedBits) (len k : ℕ) → bit_at n (extended n b len) k ≡ bit_at n b k
bit_extended n b len k = elim (cases_lt (k - pruned_bits n b) (length b.bits)) [
  | inl l ↦ get_or_append_left b.bits (replicate (len - bit_len n b) false) false (k - pruned_bits n b) l
  | inr l ↦
      get_or-append_right b.bits (replicate (len - bit_len n b) false) (length b.bits) (k - pruned_bits n b) false refl l
      ∙ (zeros (len - bit_len n b) (k - pruned_bits n b - length b.bits) ∙ sym (get_or_past b.bits (k - pruned_bits n b) false l))
]

bit_with_chunk : (n : ℕ) (b : PrunedBits) (i : ℕ) (bytes : List ℕ) (k : ℕ) → IsRetained n b k
    → bit_at n (with_chunk n b i bytes) k ≡ cond (eqb (k / (8 * n)) i) (chunk_bit n bytes k) (bit_at n b k)
bit_with_chunk n b i bytes k h =
    bit_from_bits n b.pruned (bit_len n b) (λ k. cond (eqb (k / (8 * n)) i) (chunk_bit n bytes k) (bit_at n b k)) k h.0 h.1

-- an unprune puts the bits of the chunks before the others, whose positions are unchanged
module _ (n : ℕ) (b : PrunedBits) (chunks : List (List ℕ)) (p : 0 < n) (fits : length chunks ≤ b.pruned) where
  pub len_unpruned : bit_len n (unpruned n b chunks) ≡ bit_len n b
  len_unpruned = omega (arith, front_before, length-front_bits n chunks, length-append (flat_map (chunk_bits n) chunks) b.bits)
    where
      front_before : 8 * n * (b.pruned - length chunks) + 8 * n * length chunks ≡ 8 * n * b.pruned
      front_before = front_of (8 * n) (length chunks) b.pruned fits

  bit_unpruned_high : (k : ℕ) → pruned_bits n b ≤ k → bit_at n (unpruned n b chunks) k ≡ bit_at n b k
  bit_unpruned_high k l =
      let f = front_of (8 * n) (length chunks) b.pruned fits in
      let put : List Bool = flat_map (chunk_bits n) chunks in
      let place : ℕ = k - 8 * n * (b.pruned - length chunks) in
      get_or-append_right put b.bits (8 * n * length chunks) place false (length-front_bits n chunks) (omega arith)
      ∙ ap (λ j. get_or b.bits j false) (omega arith)

  pub bit_unpruned_low : (k : ℕ) → 8 * n * (b.pruned - length chunks) ≤ k → k < pruned_bits n b
      → bit_at n (unpruned n b chunks) k ≡ chunks_bit n chunks (k - 8 * n * (b.pruned - length chunks))
  bit_unpruned_low k l h =
      let f = front_of (8 * n) (length chunks) b.pruned fits in
      let put : List Bool = flat_map (chunk_bits n) chunks in
      let place : ℕ = k - 8 * n * (b.pruned - length chunks) in
      get_or_append_left put b.bits false place (omega (arith, length-front_bits n chunks))
      ∙ get_or-front_bits n chunks (k - 8 * n * (b.pruned - length chunks)) p (omega arith)

-- a chunk is replaced among the retained bits, counted from the first retained chunk
module _ (n : ℕ) (b : PrunedBits) (i : ℕ) (bytes : List ℕ) (p : 0 < n) (low : b.pruned ≤ i) where
  index_down : (k : ℕ) → k / (8 * n) ≡ i - b.pruned → (pruned_bits n b + k) / (8 * n) ≡ i
  index_down k e = mul-add-div (omega arith) b.pruned k ∙ omega arith

  index_up : (k : ℕ) → (pruned_bits n b + k) / (8 * n) ≡ i → k / (8 * n) ≡ i - b.pruned
  index_up k e = let q : (pruned_bits n b + k) / (8 * n) ≡ b.pruned + k / (8 * n) = mul-add-div (omega arith) b.pruned k in omega arith

  place_down : (k : ℕ) → chunk_bit n bytes k ≡ chunk_bit n bytes (pruned_bits n b + k)
  place_down k = chunk_bit-mod n bytes k (pruned_bits n b + k) p (sym (mul-add-mod_self_left (8 * n) b.pruned k))

  pub zero_in_bits : ((k : ℕ) → bit_len n b ≤ k → k / (8 * n) ≡ i → chunk_bit n bytes k ≡ false) → (k : ℕ) → length b.bits ≤ k
      → k / (8 * n) ≡ i - b.pruned
      → chunk_bit n bytes k ≡ false
  zero_in_bits z k h e = place_down k ∙ z (pruned_bits n b + k) (omega arith) (index_down k e)

  replaced_bit : (k : ℕ)
      → cond (eqb (k / (8 * n)) (i - b.pruned)) (chunk_bit n bytes k) (get_or b.bits k false)
      ≡ cond (eqb ((pruned_bits n b + k) / (8 * n)) i) (chunk_bit n bytes (pruned_bits n b + k)) (bit_at n b (pruned_bits n b + k))
  replaced_bit k = elim (cases_eq (k / (8 * n)) (i - b.pruned)) [
    | inl e ↦ rw (eq-eqb _ _ e, eq-eqb _ _ (index_down k e)) (place_down k)
    | inr d ↦ rw (ne_eqb _ _ d, ne_eqb ((pruned_bits n b + k) / (8 * n)) i (λ e. d (index_up k e))) (ap (λ j. get_or b.bits j false) (omega arith))
  ]

  pub chunk_replaced : (v : List Bool) → length v ≡ length b.bits
      → ((k : ℕ) → k < length b.bits → get_or v k false ≡ cond (eqb (k / (8 * n)) (i - b.pruned)) (chunk_bit n bytes k) (get_or b.bits k false))
      → record { pruned = b.pruned; bits = v } ≡ with_chunk n b i bytes
  chunk_replaced v l h =
      same_bitmap n (record { pruned = b.pruned; bits = v }) (with_chunk n b i bytes) refl (omega (arith, len_with_chunk n b i bytes)) (λ k r.
      let s : k < bit_len n b = omega (arith, r.1, len_with_chunk n b i bytes) in
      let e : pruned_bits n b + (k - pruned_bits n b) ≡ k = omega (arith, r.0) in
      h (k - pruned_bits n b) (omega (arith, r.0))
      ∙ replaced_bit (k - pruned_bits n b)
      ∙ ap (λ j. cond (eqb (j / (8 * n)) i) (chunk_bit n bytes j) (bit_at n b j)) e
      ∙ sym (bit_with_chunk n b i bytes k (r.0, s)))

-- a fact that holds after success and after an error
pub either_way : {T E P : Type 0} (r : Result T E) → OnOk r P → OnErr r P → P
either_way (Ok x) p q = p
either_way (Err x) p q = q

pub fits_with_chunk : (n pruned : ℕ) (v w : List Bool) (c : List ℕ) → 8 * n * pruned + length v + 8 * n < 2 ^ 64
    → w ≡ v ++ chunk_bits n c
    → 8 * n * pruned + length w < 2 ^ 64
fits_with_chunk n pruned v w c h e =
    omega (arith, ap length e ∙ length-append v (chunk_bits n c), length-map-range_with_len (chunk_bit n c) 0 (8 * n))

pruned_count : (n : ℕ) (b : PrunedBits) (i : ℕ) → b.pruned ≤ i → (pruned_to n b i).pruned ≡ i
pruned_count n b i low = elim (cases_lt b.pruned i) [
  | inl m ↦ rw (lt-ltb b.pruned i m) refl
  | inr m ↦ rw (le-ltb b.pruned i m) (omega arith)
]

-- bit d, counted from the first retained chunk
bit_of_dropped : (n : ℕ) (b : PrunedBits) (m d : ℕ) → 0 < n → d < 8 * n * m
    → chunks_bit n (map (chunk n b) (range_with_len b.pruned m)) d ≡ bit_at n b (pruned_bits n b + d)
bit_of_dropped n b m d p h =
    let q : d / (8 * n) < m = div_below d (8 * n) m (omega arith) (omega arith) in
    let r = mod_below d (8 * n) (omega arith) in
    let e : 8 * n * (b.pruned + d / (8 * n)) + d % (8 * n) ≡ pruned_bits n b + d =
    omega (arith, mul-add (8 * n) b.pruned (d / (8 * n)), place (8 * n) d) in
    ap (λ c. chunk_bit n c d) (get_or-map-range_with_len (chunk n b) b.pruned m (d / (8 * n)) (b.pruned + d / (8 * n)) [] q refl)
    ∙ chunk_bit-mod n (chunk n b (b.pruned + d / (8 * n))) d (d % (8 * n)) p (sym (mod-mod d (8 * n)))
    ∙ chunk_bit_of_chunk n b (b.pruned + d / (8 * n)) (d % (8 * n)) p r
    ∙ ap (λ k. bit_at n b k) e

-- putting back the chunks that a prune has dropped restores the bitmap
pub unpruned_pruned : (n : ℕ) (b : PrunedBits) (i : ℕ) → 0 < n → b.pruned ≤ i → 8 * n * i ≤ bit_len n b
    → unpruned n (pruned_to n b i) (map (chunk n b) (range_with_len b.pruned (i - b.pruned))) ≡ b
unpruned_pruned n b i p low high =
    let c = pruned_count n b i low in
    let l = length-map-range_with_len (chunk n b) b.pruned (i - b.pruned) in
    let fits : length (map (chunk n b) (range_with_len b.pruned (i - b.pruned))) ≤ (pruned_to n b i).pruned = omega (arith, c, l) in
    let e : (pruned_to n b i).pruned - length (map (chunk n b) (range_with_len b.pruned (i - b.pruned))) ≡ b.pruned = omega (arith, c, l) in
    let front : 8 * n * (pruned_to n b i).pruned ≡ 8 * n * i = ap (λ m. 8 * n * m) c in
    let before : 8 * n * ((pruned_to n b i).pruned - length (map (chunk n b) (range_with_len b.pruned (i - b.pruned)))) ≡ 8 * n * b.pruned =
    ap (λ m. 8 * n * m) e in
    let put : List (List ℕ) = map (chunk n b) (range_with_len b.pruned (i - b.pruned)) in
    let len : bit_len n (unpruned n (pruned_to n b i) put) ≡ bit_len n b = len_unpruned n (pruned_to n b i) _ p fits ∙ len_pruned_to n b i high in
    same_bitmap n (unpruned n (pruned_to n b i) put) b e len (λ k r. elim (cases_lt k (8 * n * i)) [
      | inl h ↦
          bit_unpruned_low n (pruned_to n b i) _ p fits k (omega (arith, r.0, before)) (omega (arith, front))
          ∙ ap (λ d. chunks_bit n (map (chunk n b) (range_with_len b.pruned (i - b.pruned))) d) (ap (λ m. k - m) before)
          ∙ bit_of_dropped n b (i - b.pruned) (k - pruned_bits n b) p (omega (arith, front_of (8 * n) b.pruned i low, r.0))
          ∙ ap (λ j. bit_at n b j) (omega (arith, r.0))
      | inr h ↦ bit_unpruned_high n (pruned_to n b i) _ p fits k (omega (arith, front)) ∙ bit_pruned n b i k low h
    ])
