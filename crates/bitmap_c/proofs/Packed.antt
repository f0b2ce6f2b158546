-- Bytes that are copied, shifted and cut, by their bits. A chunk has n bytes.
use Rattle.std.proofs.Common.{◌≡◌, ℕ, ◌+◌, ◌-◌, ◌*◌, ◌/◌, ◌%◌, ◌^◌, ◌<◌, ◌≤◌, false, List, [], ◌∷◌, ◌++◌, length, get_or, set, drop, eqb, bit_and, refl, sym, ap, ◌∙◌, inl, inr, arith}
use Rattle.std.specs.Int.{bit_at}
use Rattle.std.proofs.Math.Nat.{div-add-mod, mod-eq_of_lt, mul-add, mul-le-mul_left}
use Rattle.std.proofs.lemmas.Bool.{cases_eq, cases_lt, le-ltb, lt-ltb}
use Rattle.std.proofs.lemmas.List.{get_or-append_right, get_or-drop, get_or-set_other, get_or-set_same, get_or_append_left, get_or_past, length-drop}
use Rattle.std.proofs.lemmas.Nat.{mod_below}
use Rattle.bitmap_bytes.specs.Bits.{chunks_bit}
use Rattle.bitmap_bytes.specs.Chunk.{bytes_bit, chunk_bit}
use Rattle.bitmap_bytes.proofs.Bytes.Bits.{bit_of_zero_byte, low_bit_above, low_bit_below}
use Rattle.bitmap_bytes.proofs.Bytes.Made.{bytes_are}
use Rattle.bitmap_bytes.proofs.Bytes.Shifted.{bytes_bit-left, bytes_bit-right}
use Rattle.bitmap_core.specs.Meaning.{Meaning, ShowsChunk}
use Rattle.bitmap_core.proofs.Slices.{shown_bits}
use Rattle.bitmap_c.specs.Packed.{bit_below, byte_count, packed}

-- ---- copies

-- bytes that are the same have the same bits
pub copied_bits : (bytes out : List ℕ) (from at count : ℕ) → ((k : ℕ) → k < count → get_or out (at + k) 0 ≡ get_or bytes (from + k) 0)
    → (i : ℕ) → i < 8 * count → bytes_bit out (8 * at + i) ≡ bytes_bit bytes (8 * from + i)
copied_bits bytes out from at count same i h =
    let a : (8 * at + i) / 8 ≡ at + i / 8 = omega arith in
    let r : (8 * at + i) % 8 ≡ i % 8 = omega arith in
    let b : from + i / 8 ≡ (8 * from + i) / 8 = omega arith in
    let s : i % 8 ≡ (8 * from + i) % 8 = omega arith in
    ap (λ k. eqb (bit_at (get_or out k 0) ((8 * at + i) % 8)) 1) a
    ∙ ap (λ k. eqb (bit_at (get_or out (at + i / 8) 0) k) 1) r
    ∙ ap (λ x. eqb (bit_at x (i % 8)) 1) (same (i / 8) (omega arith))
    ∙ ap (λ k. eqb (bit_at (get_or bytes k 0) (i % 8)) 1) b
    ∙ ap (λ k. eqb (bit_at (get_or bytes ((8 * from + i) / 8) 0) k) 1) s

-- a bit of a chunk, as one of its bytes
pub chunk_bit_is : (n : ℕ) (chunk : List ℕ) (i : ℕ) → i < 8 * n → chunk_bit n chunk i ≡ bytes_bit chunk i
chunk_bit_is n chunk i h = ap (λ k. eqb (bit_at (get_or chunk k 0) (i % 8)) 1) (mod-eq_of_lt {n = i / 8} {m = n} (omega arith))

-- a chunk of a bitmap has the bits from byte `first` of the bitmap on
pub chunk_bytes : (n : ℕ) (m : Meaning) (first : ℕ) (chunk : List ℕ) → ShowsChunk n m (first / n) chunk
    → (i : ℕ) → 8 * (first % n) + i < 8 * n → 8 * first + i < m.len → bytes_bit chunk (8 * (first % n) + i) ≡ m.bit (8 * first + i)
chunk_bytes n m first chunk shown i h w =
    let scaled : 8 * n * (first / n) ≡ 8 * (n * (first / n)) = grind arith in
    let e : 8 * n * (first / n) + (8 * (first % n) + i) ≡ 8 * first + i = omega (arith, scaled, div-add-mod first n) in
    sym (chunk_bit_is n chunk (8 * (first % n) + i) h) ∙ shown (8 * (first % n) + i) h (omega (arith, e)) ∙ ap m.bit e

-- the chunk of byte `first` is among `count` chunks, of which the first has index `start`
pub place_among : (n start count first : ℕ) → 0 < n → (start ≤ first / n) × (first / n < start + count)
    → (n * start ≤ first) × (first < n * start + n * count)
place_among n start count first p w =
    let d = div-add-mod first n in
    let r = mod_below first n p in
    let low : n * start ≤ n * (first / n) = mul-le-mul_left n w.0 in
    let next : first / n + 1 ≤ start + count = omega (arith, w.1) in
    let high : n * (first / n + 1) ≤ n * (start + count) = mul-le-mul_left n next in
    (omega (arith, low, d), omega (arith, high, d, r, mul-add n (first / n) 1, mul-add n start count))

-- chunks of a bitmap in place, of which the first has index `start`, have the bits from byte `first` of the bitmap on
pub held_bytes : (n : ℕ) (m : Meaning) (start first : ℕ) (chunks : List (List ℕ)) (bytes : List ℕ) → 0 < n → n * start ≤ first
    → ((c : ℕ) → c < length chunks → ShowsChunk n m (start + c) (get_or chunks c []))
    → ((i : ℕ) → bytes_bit bytes i ≡ chunks_bit n chunks i)
    → (i : ℕ) → 8 * (first - n * start) + i < 8 * (n * length chunks) → 8 * first + i < m.len
    → bytes_bit bytes (8 * (first - n * start) + i) ≡ m.bit (8 * first + i)
held_bytes n m start first chunks bytes p low shown bits i h w =
    let from : 8 * n * start ≡ 8 * (n * start) = grind arith in
    let size : 8 * n * length chunks ≡ 8 * (n * length chunks) = grind arith in
    let e : 8 * n * start + (8 * (first - n * start) + i) ≡ 8 * first + i = omega (arith, from, low) in
    bits (8 * (first - n * start) + i)
    ∙ shown_bits n m start chunks p shown (8 * (first - n * start) + i) (omega (arith, h, size)) (omega (arith, e, w))
    ∙ ap m.bit e

-- one byte of some
pub one_byte : (bytes : List ℕ) (at i : ℕ) → i < 8 → bytes_bit (get_or bytes at 0 ∷ []) i ≡ bytes_bit bytes (8 * at + i)
one_byte bytes at i h =
    let z : i / 8 ≡ 0 = omega arith in
    let a : at ≡ (8 * at + i) / 8 = omega arith in
    let r : i % 8 ≡ (8 * at + i) % 8 = omega arith in
    ap (λ k. eqb (bit_at (get_or (get_or bytes at 0 ∷ []) k 0) (i % 8)) 1) z
    ∙ ap (λ k. eqb (bit_at (get_or bytes k 0) (i % 8)) 1) a
    ∙ ap (λ k. eqb (bit_at (get_or bytes ((8 * at + i) / 8) 0) k) 1) r

-- ---- bytes that are shifted

-- bytes from byte `at` on that are those of other ones, and a byte after them
pub later_run : (old bytes : List ℕ) (next at : ℕ) → length bytes ≡ length old → at ≤ length old
    → ((k : ℕ) → at ≤ k → get_or bytes k 0 ≡ get_or old k 0)
    → (k : ℕ) → get_or (drop at bytes ++ next ∷ []) k 0 ≡ get_or (old ++ next ∷ []) (at + k) 0
later_run old bytes next at size low same k =
    let rest : length (drop at bytes) ≡ length old - at = omega (arith, length-drop {A = ℕ} at bytes) in
    elim (cases_lt k (length (drop at bytes))) [
      | inl h ↦
          get_or_append_left (drop at bytes) (next ∷ []) 0 k h
          ∙ get_or-drop at bytes k 0
          ∙ same (at + k) (omega arith)
          ∙ sym (get_or_append_left old (next ∷ []) 0 (at + k) (omega arith))
      | inr h ↦
          let e : k - length (drop at bytes) ≡ at + k - length old = omega arith in
          get_or-append_right (drop at bytes) (next ∷ []) (length (drop at bytes)) k 0 refl h
          ∙ ap (λ j. get_or (next ∷ []) j 0) e
          ∙ sym (get_or-append_right old (next ∷ []) (length old) (at + k) 0 refl (omega arith))
    ]

-- one more block of 64 bytes is shifted
pub block_shifted : (old bytes block new : List ℕ) (next skip at count : ℕ) → length bytes ≡ length old → at ≤ length old → count ≤ 64
    → ((k : ℕ) → at ≤ k → get_or bytes k 0 ≡ get_or old k 0)
    → ((i : ℕ) → chunk_bit 64 block i ≡ bytes_bit (drop at bytes ++ next ∷ []) (skip + i % 512))
    → ((k : ℕ) → k < count → get_or new (at + k) 0 ≡ get_or block (0 + k) 0)
    → (i : ℕ) → 8 * at ≤ i → i < 8 * (at + count) → bytes_bit new i ≡ bytes_bit (old ++ next ∷ []) (skip + i)
block_shifted old bytes block new next skip at count size low few same shifted copied i l h =
    let k : ℕ = i - 8 * at in
    let here : i ≡ 8 * at + k = omega arith in
    let z : 8 * 0 + k ≡ k = omega arith in
    let r : k % 512 ≡ k = omega arith in
    let from : 8 * 0 + (skip + k) ≡ skip + k = omega arith in
    let e : 8 * at + (skip + k) ≡ skip + i = omega arith in
    ap (bytes_bit new) here
    ∙ copied_bits block new 0 at count copied k (omega arith)
    ∙ ap (bytes_bit block) z
    ∙ sym (chunk_bit_is 64 block k (omega arith))
    ∙ shifted k
    ∙ ap (λ x. bytes_bit (drop at bytes ++ next ∷ []) (skip + x)) r
    ∙ ap (bytes_bit (drop at bytes ++ next ∷ [])) (sym from)
    ∙ copied_bits (old ++ next ∷ []) (drop at bytes ++ next ∷ []) at 0 (skip + k + 1)
    (λ j _. ap (λ x. get_or (drop at bytes ++ next ∷ []) x 0) (first_of j) ∙ later_run old bytes next at size low same j) (skip + k) (omega arith)
    ∙ ap (bytes_bit (old ++ next ∷ [])) e
  where
    first_of : (j : ℕ) → 0 + j ≡ j
    first_of j = omega arith

-- ---- bytes that are cut

-- the last byte is masked
pub cut_bits : (old : List ℕ) (count v : ℕ) → 0 < count % 8 → length old ≡ (count + 7) / 8
    → v ≡ bit_and (get_or old (count / 8) 0) (2 ^ (count % 8) - 1)
    → (i : ℕ) → (i < count → bytes_bit (set old (count / 8) v) i ≡ bytes_bit old i) × (count ≤ i → bytes_bit (set old (count / 8) v) i ≡ false)
cut_bits old count v part size masked i =
    let new : List ℕ = set old (count / 8) v in
    elim (cases_eq (i / 8) (count / 8)) [
      | inl e ↦
          let here : get_or new (i / 8) 0 ≡ bit_and (get_or old (count / 8) 0) (2 ^ (count % 8) - 1) =
          ap (λ k. get_or new k 0) e ∙ get_or-set_same old (count / 8) v 0 (omega arith) ∙ masked in (
            λ q. ap (λ x. eqb (bit_at x (i % 8)) 1) here
                ∙ ap (λ x. eqb x 1) (low_bit_below _ (count % 8) (i % 8) (omega arith))
                ∙ ap (λ k. eqb (bit_at (get_or old k 0) (i % 8)) 1) (sym e),
            λ q. ap (λ x. eqb (bit_at x (i % 8)) 1) here ∙ ap (λ x. eqb x 1) (low_bit_above _ (count % 8) (i % 8) (omega arith)),
          )
      | inr ne ↦
          let other : get_or new (i / 8) 0 ≡ get_or old (i / 8) 0 = get_or-set_other old (count / 8) (i / 8) v 0 ne in (
            λ q. ap (λ x. eqb (bit_at x (i % 8)) 1) other,
            λ q. bit_of_zero_byte _ (i % 8) (other ∙ get_or_past old (i / 8) 0 (omega arith)),
          )
    ]

-- ---- the bits of a range

-- bytes that are copied, shifted and cut are those of the range
module _ (m : Meaning) (from to next : ℕ) (copied shifted out : List ℕ) (order : from ≤ to) (within : to ≤ m.len)
    (size : length copied ≡ byte_count from to)
    (own : (i : ℕ) → i < 8 * length copied → 8 * (from / 8) + i < m.len → bytes_bit copied i ≡ m.bit (8 * (from / 8) + i))
    (after : (i : ℕ) → i < 8 → 8 * (from / 8 + length copied) + i < to → bytes_bit (next ∷ []) i ≡ m.bit (8 * (from / 8 + length copied) + i))
    (moved : (i : ℕ) → i < 8 * length copied → bytes_bit shifted i ≡ bytes_bit (copied ++ next ∷ []) (from % 8 + i))
    (kept : (i : ℕ) → i < to - from → bytes_bit out i ≡ bytes_bit shifted i)
    (cut : (i : ℕ) → to - from ≤ i → bytes_bit out i ≡ false) where
  -- a bit of the copied bytes and the one after them
  source_bit : (i : ℕ) → i < to - from → bytes_bit (copied ++ next ∷ []) (from % 8 + i) ≡ m.bit (from + i)
  source_bit i h =
      let x : ℕ = from % 8 + i in
      elim (cases_lt x (8 * length copied)) [
        | inl low ↦
            let e : 8 * (from / 8) + x ≡ from + i = omega arith in
            bytes_bit-left copied (next ∷ []) x (omega arith) ∙ own x low (omega arith) ∙ ap m.bit e
        | inr high ↦
            let k : ℕ = x - 8 * length copied in
            let a : x ≡ 8 * length copied + k = omega arith in
            let e : 8 * (from / 8 + length copied) + k ≡ from + i = omega arith in
            ap (bytes_bit (copied ++ next ∷ [])) a ∙ bytes_bit-right copied (next ∷ []) k ∙ after k (omega arith) (omega arith) ∙ ap m.bit e
      ]

  out_bit : (i : ℕ) → i < 8 * length copied → bytes_bit out i ≡ bit_below m.bit to (from + i)
  out_bit i h = elim (cases_lt i (to - from)) [
    | inl low ↦
        let is : bit_below m.bit to (from + i) ≡ m.bit (from + i) = rw (lt-ltb (from + i) to (omega arith)) refl in
        kept i low ∙ moved i h ∙ source_bit i low ∙ sym is
    | inr high ↦
        let is : bit_below m.bit to (from + i) ≡ false = rw (le-ltb (from + i) to (omega arith)) refl in
        cut i high ∙ sym is
  ]

  pub packed_is : length out ≡ length copied → ((j : ℕ) → get_or out j 0 < 256) → out ≡ packed m.bit from to
  packed_is l fit =
      let n : ℕ = byte_count from to in
      bytes_are n out (λ i. bit_below m.bit to (from + i)) (l ∙ size) fit (λ i h. chunk_bit_is n out i h ∙ out_bit i (omega (arith, size)))
