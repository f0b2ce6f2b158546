-- Booleans packed into bytes and chunks, and read back.
use Rattle.std.proofs.Common.{◌≡◌, ◌≢◌, ℕ, ◌+◌, ◌-◌, ◌*◌, ◌/◌, ◌%◌, ◌^◌, ◌<◌, ◌≤◌, min, Bool, true, false, not, List, [], ◌∷◌, ◌++◌, length, get_or, set, take, drop, map, append_assoc, eqb, bit_and, bit_or, w8, refl, sym, ap, ◌∙◌, inl, inr, arith}
use Rattle.std.specs.List.{range_with_len}
use Rattle.std.specs.Int.{bit_at, from_bool}
use Rattle.std.proofs.Math.Nat.{mod-eq_of_lt, mul-add, div-lt_iff_lt-mul}
use Rattle.std.proofs.lemmas.Nat.{div-mul-add, mod-mul-add}
use Rattle.std.proofs.lemmas.Nat.Bits.{bit_at_or, bit_at-zero, bit_at_set_same, bit_at_set_other}
use Rattle.std.proofs.lemmas.List.{get_or-set_same, get_or-set_other, get_or_read, get_or_past, get_or_append_left, get_or-append_right, length-append, get_or-take, get_or-drop, length-take, append-nil}
use Rattle.std.proofs.lemmas.List.FromFn.{length-map-range_with_len, get_or-map-range_with_len, map-range_with_len_more}
use Rattle.std.proofs.lemmas.Bool.{cases_eq, cases_lt}
use Rattle.bitmap_bytes.specs.Chunk.{chunk_bit}
use Rattle.bitmap_bytes.specs.Bits.{chunks_bit, bits, IsChunkCount}
use Rattle.bitmap_bytes.proofs.Bytes.Bits.{bit_test}
use Rattle.bitmap_bytes.proofs.Chunks.Bits.{chunk_bit-mod}
use Rattle.bitmap_bytes.proofs.Chunks.Lists.{chunks_bit-push_in, chunks_bit-push_here, IsZeroFrom-count}
use Rattle.bitmap_bytes.proofs.Lists.Bits.{bits-none, bits_are, length-bits, get_or-bits}

or_none : (byte r t k : ℕ) → r ≡ 0 → bit_at (bit_or byte (r * 2 ^ t % 256)) k ≡ bit_at byte k
or_none byte r t k e =
    let y : 0 * 2 ^ t % 256 ≡ 0 = omega arith in
    let z : r * 2 ^ t % 256 ≡ 0 = ap (λ x. x * 2 ^ t % 256) e ∙ y in
    let o = bit_at_or byte 0 k in
    let n = bit_at-zero k in
    ap (λ x. bit_at (bit_or byte x) k) z ∙ omega arith

put_here : (byte t : ℕ) (b : Bool) → t < 8 → eqb (bit_at byte t) 1 ≡ false → eqb (bit_at (bit_or byte (from_bool b * 2 ^ t % 256)) t) 1 ≡ b
put_here byte t true h z = ap (λ x. eqb x 1) (bit_at_set_same w8 byte t h)
put_here byte t false h z = ap (λ x. eqb x 1) (or_none byte 0 t t refl) ∙ z

put_other : (byte t : ℕ) (b : Bool) → t < 8 → (k : ℕ) → k ≢ t → bit_at (bit_or byte (from_bool b * 2 ^ t % 256)) k ≡ bit_at byte k
put_other byte t true h k d = bit_at_set_other w8 byte t h k d
put_other byte t false h k d = or_none byte 0 t k refl

-- one more boolean in a byte
pub byte-more : (v : List Bool) (byte t r : ℕ) → t < 8 → t < length v → r ≡ from_bool (get_or v t false)
    → ((k : ℕ) → eqb (bit_at byte k) 1 ≡ get_or (take t v) k false) → (k : ℕ)
    → eqb (bit_at (bit_or byte (r * 2 ^ t % 256)) k) 1 ≡ get_or (take (t + 1) v) k false
byte-more v byte t r h s e b k =
    ap (λ x. eqb (bit_at (bit_or byte (x * 2 ^ t % 256)) k) 1) e ∙ elim (cases_eq k t) [
      | inl q ↦
          ap (λ j. eqb (bit_at (bit_or byte (from_bool (get_or v t false) * 2 ^ t % 256)) j) 1) q
          ∙ put_here byte t (get_or v t false) h (b t ∙ get_or_past (take t v) t false (omega (arith, length-take {A = Bool} t v)))
          ∙ ap (λ j. get_or v j false) (sym q) ∙ sym (get_or-take (t + 1) v k false (omega arith))
      | inr d ↦ ap (λ x. eqb x 1) (put_other byte t (get_or v t false) h k d) ∙ b k ∙ elim (cases_lt k t) [
        | inl l ↦ get_or-take t v k false l ∙ sym (get_or-take (t + 1) v k false (omega arith))
        | inr l ↦
            get_or_past (take t v) k false (omega (arith, length-take {A = Bool} t v))
            ∙ sym (get_or_past (take (t + 1) v) k false (omega (arith, length-take {A = Bool} (t + 1) v)))
      ]
    ]

-- the booleans of a piece, which is short only at the end
piece-bit : (v : List Bool) (from size at t : ℕ) → (at + t < length v → (from ≡ at) × (t < size))
    → (length v ≤ at + t → size ≤ t)
    → get_or (take size (drop from v)) t false ≡ get_or v (at + t) false
piece-bit v from size at t a b = elim (cases_lt (at + t) (length v)) [
  | inl h ↦ get_or-take size (drop from v) t false (a h).1 ∙ get_or-drop from v t false ∙ ap (λ x. get_or v (x + t) false) (a h).0
  | inr h ↦
      let s = b h in
      get_or_past (take size (drop from v)) t false (omega (arith, length-take {A = Bool} size (drop from v)))
      ∙ sym (get_or_past v (at + t) false h)
]

-- one more byte of booleans in a chunk
pub bytes-more : (n : ℕ) (chunk : List ℕ) (v : List Bool) (j b from to : ℕ) → 0 < n → j < n → length chunk ≡ n
    → from ≡ min (8 * j) (length v) → to ≡ min (8 * j + 8) (length v)
    → ((t : ℕ) → eqb (bit_at b t) 1 ≡ get_or (take (to - from) (drop from v)) t false)
    → ((k : ℕ) → k < 8 * j → chunk_bit n chunk k ≡ get_or v k false) → (k : ℕ) → k < 8 * (j + 1)
    → chunk_bit n (set chunk j b) k ≡ get_or v k false
bytes-more n chunk v j b from to p s l f g h d k w =
    let m : k / 8 % n ≡ k / 8 = mod-eq_of_lt {n = k / 8} {m = n} (omega arith) in
    elim (cases_lt k (8 * j)) [
      | inl q ↦ ap (λ x. eqb (bit_at x (k % 8)) 1) (get_or-set_other chunk j (k / 8 % n) b 0 (λ e. absurd (omega arith))) ∙ d k q
      | inr q ↦
          let e : k / 8 % n ≡ j = omega arith in
          let c : 8 * j + k % 8 ≡ k = omega arith in
          ap (λ x. eqb (bit_at x (k % 8)) 1) (ap (λ x. get_or (set chunk j b) x 0) e ∙ get_or-set_same chunk j b 0 (omega arith))
          ∙ h (k % 8)
          ∙ piece-bit v from (to - from) (8 * j) (k % 8) (λ y. (omega arith, omega arith)) (λ y. omega arith)
          ∙ ap (λ x. get_or v x false) c
    ]

-- one more chunk of booleans
pub chunks-more : (n : ℕ) (xs ys : List (List ℕ)) (c : List ℕ) (v : List Bool) (i from size : ℕ) → 0 < n → length xs ≡ i
    → from ≡ 8 * n * i → size ≡ min (8 * n) (length v - from)
    → ((t : ℕ) → t < 8 * n → chunk_bit n c t ≡ get_or (take size (drop from v)) t false)
    → ((k : ℕ) → k < 8 * n * i → chunks_bit n xs k ≡ get_or v k false) → ys ≡ xs ++ c ∷ [] → (k : ℕ) → k < 8 * n * (i + 1)
    → chunks_bit n ys k ≡ get_or v k false
chunks-more n xs ys c v i from size p l f s h d e k w =
    let m = mul-add (8 * n) i 1 in
    ap (λ x. chunks_bit n x k) e ∙ elim (cases_lt k from) [
      | inl q ↦
          let a : k / (8 * n) < length xs = rw l ((div-lt_iff_lt-mul {k = 8 * n} {x = k} {y = i} (omega arith)).1 (grind arith)) in
          chunks_bit-push_in n xs c k a ∙ d k (omega arith)
      | inr q ↦
          let at : k ≡ i * (8 * n) + (k - from) = grind arith in
          let t : k - from < 8 * n = omega arith in
          let a : k / (8 * n) ≡ length xs = ap (λ x. x / (8 * n)) at ∙ div-mul-add i (8 * n) (k - from) t ∙ sym l in
          let b : k % (8 * n) ≡ (k - from) % (8 * n) =
          ap (λ x. x % (8 * n)) at
          ∙ mod-mul-add i (8 * n) (k - from) t
          ∙ sym (mod-eq_of_lt {n = k - from} {m = 8 * n} t) in
          let z : from + (k - from) ≡ k = omega arith in
          chunks_bit-push_here n xs c k a
          ∙ chunk_bit-mod n c k (k - from) p b
          ∙ h (k - from) t
          ∙ piece-bit v from size from (k - from) (λ y. (refl, omega arith)) (λ y. omega arith)
          ∙ ap (λ x. get_or v x false) z
    ]

-- chunks that hold booleans have no bit past them
pub all-bits : (n : ℕ) (xs : List (List ℕ)) (v : List Bool) → 0 < n → length v ≤ 8 * n * length xs
    → ((k : ℕ) → k < 8 * n * length xs → chunks_bit n xs k ≡ get_or v k false) → (k : ℕ)
    → chunks_bit n xs k ≡ get_or v k false
all-bits n xs v p l d k = elim (cases_lt k (8 * n * length xs)) [
  | inl h ↦ d k h
  | inr h ↦ IsZeroFrom-count n xs (8 * n * length xs) p (omega arith) k h ∙ sym (get_or_past v k false (omega arith))
]

-- one more bit of a chunk
pub bools-more : (n : ℕ) (chunk : List ℕ) (i m : ℕ) (old xs ys : List Bool) → i < 8 * n → m ≡ 2 ^ (i % 8)
    → xs ≡ old ++ map (chunk_bit n chunk) (range_with_len 0 i)
    → ys ≡ xs ++ not (eqb (bit_and (get_or chunk (i / 8) 0) m) 0) ∷ []
    → ys ≡ old ++ map (chunk_bit n chunk) (range_with_len 0 (i + 1))
bools-more n chunk i m old xs ys h e a b =
    let j : i / 8 ≡ i / 8 % n = sym (mod-eq_of_lt {n = i / 8} {m = n} (omega arith)) in
    let x : not (eqb (bit_and (get_or chunk (i / 8) 0) m) 0) ≡ chunk_bit n chunk i =
    ap (λ y. not (eqb (bit_and (get_or chunk (i / 8) 0) y) 0)) e
    ∙ bit_test _ _
    ∙ ap (λ y. eqb (bit_at (get_or chunk y 0) (i % 8)) 1) j in
    b
    ∙ ap (λ y. xs ++ y ∷ []) x
    ∙ ap (λ l. l ++ chunk_bit n chunk i ∷ []) a
    ∙ append_assoc old (map (chunk_bit n chunk) (range_with_len 0 i)) (chunk_bit n chunk i ∷ [])
    ∙ ap (λ l. old ++ l) (sym (map-range_with_len_more (chunk_bit n chunk) 0 i i (omega arith)))

-- the first bits of a chunk follow those of the chunks before it
bits-chunk : (n : ℕ) (xs : List (List ℕ)) (i : ℕ) (c : List ℕ) (count : ℕ) → 0 < n → i < length xs → c ≡ get_or xs i c
    → count ≤ 8 * n
    → bits n xs (8 * n * i + count) ≡ bits n xs (8 * n * i) ++ map (chunk_bit n c) (range_with_len 0 count)
bits-chunk n xs i c count p s r h =
    let l = length-bits n xs (8 * n * i) in
    let m = length-map-range_with_len (chunk_bit n c) 0 count in
    let before : List Bool = bits n xs (8 * n * i) in
    let first : List Bool = map (chunk_bit n c) (range_with_len 0 count) in
    bits_are n xs (8 * n * i + count) (before ++ first) (omega (arith, length-append before first)) (λ k w. elim (cases_lt k (8 * n * i)) [
      | inl q ↦
          sym (get_or-bits n xs (8 * n * i) k false q)
          ∙ sym (get_or_append_left (bits n xs (8 * n * i)) (map (chunk_bit n c) (range_with_len 0 count)) false k (omega arith))
      | inr q ↦
          let t : k - 8 * n * i < 8 * n = omega arith in
          let at : k ≡ i * (8 * n) + (k - 8 * n * i) = grind arith in
          let a : k / (8 * n) ≡ i = ap (λ x. x / (8 * n)) at ∙ div-mul-add i (8 * n) (k - 8 * n * i) t in
          let b : k % (8 * n) ≡ (k - 8 * n * i) % (8 * n) =
          ap (λ x. x % (8 * n)) at
          ∙ mod-mul-add i (8 * n) (k - 8 * n * i) t
          ∙ sym (mod-eq_of_lt {n = k - 8 * n * i} {m = 8 * n} t) in
          ap (λ x. chunk_bit n (get_or xs x []) k) a
          ∙ ap (λ x. chunk_bit n x k) (sym (get_or_read xs i c s r []))
          ∙ chunk_bit-mod n c k (k - 8 * n * i) p b
          ∙ sym (get_or-map-range_with_len (chunk_bit n c) 0 count (k - 8 * n * i) (k - 8 * n * i) false (omega arith) (omega arith))
          ∙ sym (get_or-append_right (bits n xs (8 * n * i)) (map (chunk_bit n c) (range_with_len 0 count)) (8 * n * i) k false l q)
    ])

before_last : (n k len i : ℕ) → 0 < n → IsChunkCount n k len → i < k → 8 * n * i < len
before_last n k len i p c h = grind arith

-- the bits of one more chunk, which may be partly used if it is the last one
pub bools-chunk : (n : ℕ) (xs : List (List ℕ)) (i : ℕ) (c : List ℕ) (len left count : ℕ) (old a b : List Bool) → 0 < n
    → IsChunkCount n (length xs) len → i < length xs → c ≡ get_or xs i c → left ≡ len - 8 * n * i → count ≡ min left (8 * n)
    → a ≡ old ++ bits n xs (len - left) → b ≡ a ++ map (chunk_bit n c) (range_with_len 0 count)
    → b ≡ old ++ bits n xs (len - (left - count))
bools-chunk n xs i c len left count old a b p k s r l m f g =
    let o = before_last n (length xs) len i p k s in
    let d : len - left ≡ 8 * n * i = omega arith in
    let e : len - (left - count) ≡ 8 * n * i + count = omega arith in
    g
    ∙ ap (λ x. x ++ map (chunk_bit n c) (range_with_len 0 count)) (f ∙ ap (λ x. old ++ bits n xs x) d)
    ∙ append_assoc old (bits n xs (8 * n * i)) (map (chunk_bit n c) (range_with_len 0 count))
    ∙ ap (λ x. old ++ x) (sym (bits-chunk n xs i c count p s r (omega arith)) ∙ ap (λ x. bits n xs x) (sym e))

-- no bits append nothing
pub bools-none : (n : ℕ) (xs : List (List ℕ)) (len : ℕ) (old : List Bool) → old ≡ old ++ bits n xs (len - len)
bools-none n xs len old =
    let e : len - len ≡ 0 = omega arith in
    sym (ap (λ x. old ++ bits n xs x) e ∙ ap (λ x. old ++ x) (bits-none n xs) ∙ append-nil old)
