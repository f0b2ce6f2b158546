-- The effect of edits of the chunks on the list of their bits.
use Rattle.std.proofs.Common.{◌≡◌, ℕ, ◌+◌, ◌-◌, ◌*◌, ◌/◌, ◌%◌, ◌<◌, ◌≤◌, Bool, false, List, [], ◌∷◌, ◌++◌, length, get_or, set, take, replicate, map, sym, ap, ◌∙◌, inl, inr, arith}
use Rattle.std.specs.List.{range_with_len}
use Rattle.std.proofs.Math.Nat.{mod-eq_of_lt}
use Rattle.std.proofs.lemmas.Nat.{div-mul-add, mod-mul-add}
use Rattle.std.proofs.lemmas.List.{get_or-set_same, get_or-set_other, length-set, get_or_append_left, get_or-append_right, length-append, length-replicate, get_or-replicate, append-nil}
use Rattle.std.proofs.lemmas.List.FromFn.{length-map-range_with_len, get_or-map-range_with_len}
use Rattle.std.proofs.lemmas.Bool.{cases_eq, cases_lt}
use Rattle.bitmap_bytes.specs.Chunk.{chunk_bit}
use Rattle.bitmap_bytes.specs.Bits.{chunks_bit, bits, IsChunkCount, IsBitPut, IsZeroFrom}
use Rattle.bitmap_bytes.proofs.Chunks.Places.{index_below, full_len}
use Rattle.bitmap_bytes.proofs.Chunks.Bits.{chunk_bit-mod}
use Rattle.bitmap_bytes.proofs.Lists.Bits.{get_or-bits, bits-more, bits_are, bits-same, len_is, take-bits}
use Rattle.bitmap_bytes.proofs.Chunks.Lists.{chunks_bit-push_in, chunks_bit-push_here}

-- a bit is set, pushed and popped
pub bits-put : (n : ℕ) (xs ys : List (List ℕ)) (i : ℕ) (b : Bool) (len : ℕ) (v : List Bool) → IsBitPut n xs ys i b
    → bits n xs len ≡ v → i < len
    → bits n ys len ≡ set v i b
bits-put n xs ys i b len v p e h =
    bits_are n ys len (set v i b) (length-set v i b ∙ len_is n xs len v e) (λ j s. elim (cases_eq j i) [
      | inl q ↦
          ap (λ k. chunks_bit n ys k) q
          ∙ p.here
          ∙ sym (get_or-set_same v i b false (omega (arith, len_is n xs len v e)))
          ∙ ap (λ k. get_or (set v i b) k false) (sym q)
      | inr q ↦ p.others j q ∙ sym (get_or-bits n xs len j false s) ∙ ap (λ x. get_or x j false) e ∙ sym (get_or-set_other v i j b false q)
    ])

pub bits-push : (n : ℕ) (xs ys : List (List ℕ)) (len : ℕ) (b : Bool) (v : List Bool) → IsBitPut n xs ys len b
    → bits n xs len ≡ v
    → bits n ys (len + 1) ≡ v ++ b ∷ []
bits-push n xs ys len b v p e =
    bits-more n ys len
    ∙ ap (λ x. bits n ys len ++ x ∷ []) p.here
    ∙ ap (λ l. l ++ b ∷ []) (bits-same n xs ys len (λ i s. p.others i (λ q. absurd (omega arith))) ∙ e)

pub bits-pop : (n : ℕ) (xs ys : List (List ℕ)) (last len : ℕ) (v : List Bool) → last + 1 ≡ len
    → ((i : ℕ) → i < last → chunks_bit n ys i ≡ chunks_bit n xs i) → bits n xs len ≡ v
    → v ≡ bits n ys last ++ chunks_bit n xs last ∷ []
bits-pop n xs ys last len v e s h =
    sym h ∙ ap (λ k. bits n xs k) (sym e) ∙ bits-more n xs last ∙ ap (λ l. l ++ chunks_bit n xs last ∷ []) (sym (bits-same n xs ys last s))

-- zero bits are appended by a greater length
pub bits-extend : (n : ℕ) (xs ys : List (List ℕ)) (len longer : ℕ) (v : List Bool) → len ≤ longer → IsZeroFrom n xs len
    → ((i : ℕ) → chunks_bit n ys i ≡ chunks_bit n xs i) → bits n xs len ≡ v
    → bits n ys longer ≡ v ++ replicate (longer - length v) false
bits-extend n xs ys len longer v p z h e =
    let l = len_is n xs len v e in
    let zeros : List Bool = replicate (longer - length v) false in
    let lengths : length (v ++ zeros) ≡ longer = omega (arith, length-append v zeros, length-replicate (longer - length v) false) in
    bits_are n ys longer (v ++ zeros) lengths (λ i s. elim (cases_lt i len) [
      | inl w ↦
          h i
          ∙ sym (get_or-bits n xs len i false w)
          ∙ ap (λ x. get_or x i false) e
          ∙ sym (get_or_append_left v (replicate (longer - length v) false) false i (omega arith))
      | inr w ↦
          h i
          ∙ z i w
          ∙ sym (get_or-replicate (longer - length v) (i - len) false false (omega arith))
          ∙ sym (get_or-append_right v (replicate (longer - length v) false) len i false l w)
    ])

-- extending a list to at most its length changes nothing
pub append_nothing : (v : List Bool) (m : ℕ) → m ≤ length v → v ≡ v ++ replicate (m - length v) false
append_nothing v m h = let e : m - length v ≡ 0 = omega arith in sym (ap (λ k. v ++ replicate k false) e ∙ append-nil v)

-- the bits below a smaller length
pub bits-take : (n : ℕ) (xs ys : List (List ℕ)) (len shorter : ℕ) (v : List Bool) → shorter ≤ len
    → ((i : ℕ) → i < shorter → chunks_bit n ys i ≡ chunks_bit n xs i) → bits n xs len ≡ v
    → bits n ys shorter ≡ take shorter v
bits-take n xs ys len shorter v p h e = bits-same n xs ys shorter h ∙ sym (take-bits n xs len shorter p) ∙ ap (λ x. take shorter x) e

-- a whole chunk is pushed
pub bits-push_chunk : (n : ℕ) (xs : List (List ℕ)) (len : ℕ) (c : List ℕ) (v : List Bool) → 0 < n → len % (8 * n) ≡ 0
    → IsChunkCount n (length xs) len → bits n xs len ≡ v
    → bits n (xs ++ c ∷ []) (len + 8 * n) ≡ v ++ map (chunk_bit n c) (range_with_len 0 (8 * n))
bits-push_chunk n xs len c v p e k b =
    let l = len_is n xs len v b in
    let f = full_len n (length xs) len p k e in
    let m = length-map-range_with_len (chunk_bit n c) 0 (8 * n) in
    let pushed : List Bool = map (chunk_bit n c) (range_with_len 0 (8 * n)) in
    bits_are n (xs ++ c ∷ []) (len + 8 * n) (v ++ pushed) (omega (arith, length-append v pushed)) (λ i h. elim (cases_lt i len) [
      | inl s ↦
          chunks_bit-push_in n xs c i (index_below n (length xs) len i p s k)
          ∙ sym (get_or-bits n xs len i false s)
          ∙ ap (λ x. get_or x i false) b
          ∙ sym (get_or_append_left v (map (chunk_bit n c) (range_with_len 0 (8 * n))) false i (omega arith))
      | inr s ↦
          let at : i ≡ length xs * (8 * n) + (i - len) = grind arith in
          let q : i / (8 * n) ≡ length xs = ap (λ x. x / (8 * n)) at ∙ div-mul-add (length xs) (8 * n) (i - len) (omega arith) in
          let r : i % (8 * n) ≡ (i - len) % (8 * n) =
          ap (λ x. x % (8 * n)) at
          ∙ mod-mul-add (length xs) (8 * n) (i - len) (omega arith)
          ∙ sym (mod-eq_of_lt {n = i - len} {m = 8 * n} (omega arith)) in
          chunks_bit-push_here n xs c i q
          ∙ chunk_bit-mod n c i (i - len) p r
          ∙ sym (get_or-map-range_with_len (chunk_bit n c) 0 (8 * n) (i - len) (i - len) false (omega arith) (omega arith))
          ∙ sym (get_or-append_right v (map (chunk_bit n c) (range_with_len 0 (8 * n))) len i false l s)
    ])

-- the bits of one list after those of another
pub bits-append : (n m : ℕ) (xs ys os : List (List ℕ)) (len more : ℕ) (v w : List Bool) → 0 < n
    → IsChunkCount n (length ys) (len + more) → bits n xs len ≡ v → bits m os more ≡ w
    → ((i : ℕ) → i < len → chunks_bit n ys i ≡ chunks_bit n xs i)
    → ((i : ℕ) → len ≤ i → i / (8 * n) < length ys → chunks_bit n ys i ≡ chunks_bit m os (i - len))
    → bits n ys (len + more) ≡ v ++ w
bits-append n m xs ys os len more v w p k e f kept joined =
    let l = len_is n xs len v e in
    let o = len_is m os more w f in
    bits_are n ys (len + more) (v ++ w) (omega (arith, length-append v w)) (λ i h. elim (cases_lt i len) [
      | inl s ↦ kept i s ∙ sym (get_or-bits n xs len i false s) ∙ ap (λ x. get_or x i false) e ∙ sym (get_or_append_left v w false i (omega arith))
      | inr s ↦
          joined i s (index_below n (length ys) (len + more) i p h k)
          ∙ sym (get_or-bits m os more (i - len) false (omega arith))
          ∙ ap (λ x. get_or x (i - len) false) f
          ∙ sym (get_or-append_right v w len i false l s)
    ])
