-- The bits of a list of chunks that grows, shrinks or has one chunk written.
use Rattle.std.proofs.Common.{◌≡◌, ◌≢◌, ℕ, ◌+◌, ◌-◌, ◌*◌, ◌/◌, ◌%◌, ◌<◌, ◌≤◌, Bool, true, false, List, [], ◌∷◌, ◌++◌, length, get_or, set, take, replicate, not, subst, refl, sym, ap, ◌∙◌, inl, inr, arith}
use Rattle.std.specs.Int.{div_ceil}
use Rattle.std.proofs.Math.Nat.{div-add-mod, mul-add, le-div_iff_mul-le, div-mul-le_self}
use Rattle.std.proofs.lemmas.Nat.{mod_below, div-mul-add, mod-mul-add}
use Rattle.std.proofs.lemmas.List.{get_or-set_same, get_or-set_other, length-set, get_or_read, get_or-replicate, get_or_past, length-replicate, get_or_append_left, get_or_push, length-append, get_or-take, length-take}
use Rattle.std.proofs.lemmas.Bool.{cases_eq, cases_lt}
use Rattle.bitmap_bytes.specs.Chunk.{chunk_bit, IsBitWritten}
use Rattle.bitmap_bytes.specs.Bits.{chunks_bit, IsZeroFrom, IsChunkCount, IsBitPut}
use Rattle.bitmap_bytes.proofs.Bytes.Bits.{bit_of_zero_byte, bit_of_full_byte}
use Rattle.bitmap_bytes.proofs.Chunks.Places.{same_place, below_div, IsChunkCount-same, last_within, full_len, fewer_chunks, IsChunkCount-missing}
use Rattle.bitmap_bytes.proofs.Chunks.Bits.{chunk_bit-mod}

-- the bits of the chunk that is written, and the others
pub chunks_bit-set_here : (n : ℕ) (chunks : List (List ℕ)) (at : ℕ) (chunk : List ℕ) (i : ℕ) → at < length chunks → i / (8 * n) ≡ at
    → chunks_bit n (set chunks at chunk) i ≡ chunk_bit n chunk i
chunks_bit-set_here n chunks at chunk i h e =
    ap (λ c. chunk_bit n c i) (ap (λ a. get_or (set chunks at chunk) a []) e ∙ get_or-set_same chunks at chunk [] h)

pub chunks_bit-set_other : (n : ℕ) (chunks : List (List ℕ)) (at : ℕ) (chunk : List ℕ) (i : ℕ) → i / (8 * n) ≢ at
    → chunks_bit n (set chunks at chunk) i ≡ chunks_bit n chunks i
chunks_bit-set_other n chunks at chunk i e = ap (λ c. chunk_bit n c i) (get_or-set_other chunks at (i / (8 * n)) chunk [] e)

-- a bit that is written to its chunk is written to the list
pub IsBitPut-chunk : (n : ℕ) (xs : List (List ℕ)) (i : ℕ) (b : Bool) (old new : List ℕ) → 0 < n → i / (8 * n) < length xs
    → old ≡ get_or xs (i / (8 * n)) old → IsBitWritten n old new i b
    → IsBitPut n xs (set xs (i / (8 * n)) new) i b
IsBitPut-chunk n xs i b old new p w r h = record {
  here = chunks_bit-set_here n xs (i / (8 * n)) new i w refl ∙ h.here;
  others = λ j d. elim (cases_eq (j / (8 * n)) (i / (8 * n))) [
    | inl e ↦
        chunks_bit-set_here n xs (i / (8 * n)) new j w e
        ∙ h.others j (λ q. d (same_place (8 * n) j i e q))
        ∙ ap (λ c. chunk_bit n c j) (get_or_read xs (i / (8 * n)) old w r [] ∙ ap (λ a. get_or xs a []) (sym e))
    | inr e ↦ chunks_bit-set_other n xs (i / (8 * n)) new j e
  ];
  count = length-set xs (i / (8 * n)) new;
}

pub IsBitPut-flip : (n : ℕ) (xs : List (List ℕ)) (i : ℕ) (old new : List ℕ) → 0 < n → i / (8 * n) < length xs
    → old ≡ get_or xs (i / (8 * n)) old → IsBitWritten n old new i (not (chunk_bit n old i))
    → IsBitPut n xs (set xs (i / (8 * n)) new) i (not (chunks_bit n xs i))
IsBitPut-flip n xs i old new p w r h =
    let e : chunk_bit n old i ≡ chunks_bit n xs i = ap (λ c. chunk_bit n c i) (get_or_read xs (i / (8 * n)) old w r []) in
    subst (λ b. IsBitPut n xs (set xs (i / (8 * n)) new) i (not b)) e (IsBitPut-chunk n xs i (not (chunk_bit n old i)) old new p w r h)

-- a bit that is written below the length leaves zeros past it
pub IsZeroFrom-put : (n : ℕ) (xs ys : List (List ℕ)) (i : ℕ) (b : Bool) (len : ℕ) → IsBitPut n xs ys i b → i < len
    → IsZeroFrom n xs len
    → IsZeroFrom n ys len
IsZeroFrom-put n xs ys i b len p h z j s = p.others j (λ q. absurd (omega arith)) ∙ z j s

-- writing the value that a bit already has changes nothing
pub IsBitPut_same : (n : ℕ) (xs : List (List ℕ)) (i : ℕ) (b : Bool) → chunks_bit n xs i ≡ b → IsBitPut n xs xs i b
IsBitPut_same n xs i b h = record { here = h; others = λ j d. refl; count = refl }

-- past the chunks there is no bit
pub bit_of_past : (n : ℕ) (xs : List (List ℕ)) (i : ℕ) → length xs ≤ i / (8 * n) → chunks_bit n xs i ≡ false
bit_of_past n xs i h = ap (λ c. chunk_bit n c i) (get_or_past xs (i / (8 * n)) [] h) ∙ bit_of_zero_byte 0 (i % 8) refl

-- the missing chunks are appended
pub IsChunkCount-appended : (n : ℕ) (xs ys : List (List ℕ)) (c : List ℕ) (m len longer : ℕ) → 0 < n
    → IsChunkCount n (length xs) len → len ≤ longer → m ≡ div_ceil longer (8 * n) - length xs → ys ≡ xs ++ replicate m c
    → IsChunkCount n (length ys) longer
IsChunkCount-appended n xs ys c m len longer p k h q e =
    rw (e, length-append, length-replicate, q) (IsChunkCount-missing n (length xs) len longer p k h)

-- every bit of chunks of ones is true
pub chunks_bit-ones : (n k : ℕ) (i : ℕ) → 0 < n → i / (8 * n) < k → chunks_bit n (replicate k (replicate n 255)) i ≡ true
chunks_bit-ones n k i p h =
    ap (λ c. chunk_bit n c i) (get_or-replicate {A = List ℕ} k (i / (8 * n)) (replicate n 255) [] h)
    ∙ bit_of_full_byte _ (i % 8) (get_or-replicate {A = ℕ} n (i / 8 % n) 255 0 (mod_below (i / 8) n p)) (mod_below i 8 (omega arith))

-- a prefix of the chunks has the bits of the chunks that it keeps
pub chunks_bit-take_in : (n : ℕ) (xs : List (List ℕ)) (k i : ℕ) → i / (8 * n) < k → chunks_bit n (take k xs) i ≡ chunks_bit n xs i
chunks_bit-take_in n xs k i h = ap (λ c. chunk_bit n c i) (get_or-take k xs (i / (8 * n)) [] h)

chunks_bit-take_past : (n : ℕ) (xs : List (List ℕ)) (k i : ℕ) → k ≤ i / (8 * n) → chunks_bit n (take k xs) i ≡ false
chunks_bit-take_past n xs k i h = bit_of_past n (take k xs) i (omega (arith, length-take {A = List ℕ} k xs))

-- the last chunk may be removed if all its bits are zero
pub chunks_bit-drop_last : (n : ℕ) (xs : List (List ℕ)) (len : ℕ) → 0 < n → IsZeroFrom n xs len → len / (8 * n) ≡ length xs - 1
    → len % (8 * n) ≡ 0 → (i : ℕ)
    → chunks_bit n (take (length xs - 1) xs) i ≡ chunks_bit n xs i
chunks_bit-drop_last n xs len p z q e i = elim (cases_lt (i / (8 * n)) (length xs - 1)) [
  | inl h ↦ chunks_bit-take_in n xs (length xs - 1) i h
  | inr h ↦ chunks_bit-take_past n xs (length xs - 1) i h ∙ sym (z i (below_div (8 * n) len i e (omega arith)))
]

-- if the last bit is set to false, the bits past the shorter length are zero
pub IsZeroFrom-pop : (n : ℕ) (xs ys : List (List ℕ)) (last len : ℕ) → last + 1 ≡ len → IsBitPut n xs ys last false
    → IsZeroFrom n xs len
    → IsZeroFrom n ys last
IsZeroFrom-pop n xs ys last len e p z i h = elim (cases_eq i last) [
  | inl q ↦ ap (λ k. chunks_bit n ys k) q ∙ p.here
  | inr q ↦ p.others i q ∙ z i (omega arith)
]

-- the bits before a chunk that is appended, and the bits of that chunk
pub chunks_bit-push_in : (n : ℕ) (xs : List (List ℕ)) (c : List ℕ) (i : ℕ) → i / (8 * n) < length xs → chunks_bit n (xs ++ c ∷ []) i ≡ chunks_bit n xs i
chunks_bit-push_in n xs c i h = ap (λ x. chunk_bit n x i) (get_or_append_left xs (c ∷ []) [] (i / (8 * n)) h)

pub chunks_bit-push_here : (n : ℕ) (xs : List (List ℕ)) (c : List ℕ) (i : ℕ) → i / (8 * n) ≡ length xs → chunks_bit n (xs ++ c ∷ []) i ≡ chunk_bit n c i
chunks_bit-push_here n xs c i e = ap (λ x. chunk_bit n x i) (ap (λ a. get_or (xs ++ c ∷ []) a []) e ∙ get_or_push xs c [] (length xs) refl)

-- past the chunks every bit is zero
pub IsZeroFrom-count : (n : ℕ) (xs : List (List ℕ)) (len : ℕ) → 0 < n → 8 * n * length xs ≤ len → IsZeroFrom n xs len
IsZeroFrom-count n xs len p h i s = bit_of_past n xs i ((le-div_iff_mul-le {k = 8 * n} {x = length xs} {y = i} (omega arith)).1 (grind arith))

-- with the last chunk cleared from the length on, every bit past the length is zero
pub IsZeroFrom-cleared : (n : ℕ) (xs : List (List ℕ)) (len : ℕ) (c : List ℕ) → 0 < n → IsChunkCount n (length xs) len
    → (len % (8 * n) ≡ 0 → ⊥) → ((i : ℕ) → len % (8 * n) ≤ i % (8 * n) → chunk_bit n c i ≡ false)
    → IsZeroFrom n (set xs (len / (8 * n)) c) len
IsZeroFrom-cleared n xs len c p k d h i s =
    let f : len / (8 * n) < length xs = last_within n (length xs) len p (IsChunkCount-same n (length xs) len p k d) in
    let e = div-add-mod len (8 * n) in
    let g = div-add-mod i (8 * n) in
    elim (cases_eq (i / (8 * n)) (len / (8 * n))) [
      | inl q ↦ chunks_bit-set_here n xs (len / (8 * n)) c i f q ∙ h i (let m = ap (λ x. 8 * n * x) q in omega arith)
      | inr q ↦
          let start : len / (8 * n) * (8 * n) ≤ i = omega (arith, div-mul-le_self len (8 * n)) in
          let below : len / (8 * n) ≤ i / (8 * n) = (le-div_iff_mul-le {k = 8 * n} {x = len / (8 * n)} {y = i} (omega arith)).1 start in
          let next : len ≤ 8 * n * (len / (8 * n) + 1) =
          rw (mul-add (8 * n) (len / (8 * n)) 1) (omega (arith, mod_below len (8 * n) (omega arith))) in
          let l : length xs ≤ len / (8 * n) + 1 = fewer_chunks (8 * n) (length xs) (len / (8 * n) + 1) len k.1 next in
          bit_of_past n (set xs (len / (8 * n)) c) i (omega (arith, length-set xs (len / (8 * n)) c))
    ]

-- if the last chunk is full, there is no bit past the length
pub IsZeroFrom-full : (n : ℕ) (xs : List (List ℕ)) (len : ℕ) → 0 < n → IsChunkCount n (length xs) len → len % (8 * n) ≡ 0 → IsZeroFrom n xs len
IsZeroFrom-full n xs len p k e = IsZeroFrom-count n xs len p (omega (arith, full_len n (length xs) len p k e))

-- lists of chunks with the same bits have chunks with the same bits
pub chunk_from_bits : (n : ℕ) (xs ys : List (List ℕ)) (i : ℕ) (a b : List ℕ) → 0 < n → i < length xs → i < length ys
    → a ≡ get_or xs i a → b ≡ get_or ys i b → ((k : ℕ) → chunks_bit n xs k ≡ chunks_bit n ys k) → (t : ℕ)
    → chunk_bit n a t ≡ chunk_bit n b t
chunk_from_bits n xs ys i a b p s w r q h t =
    let m : t % (8 * n) < 8 * n = mod_below t (8 * n) (omega arith) in
    let k : (i * (8 * n) + t % (8 * n)) / (8 * n) ≡ i = div-mul-add i (8 * n) (t % (8 * n)) m in
    let e : t % (8 * n) ≡ (i * (8 * n) + t % (8 * n)) % (8 * n) = sym (mod-mul-add i (8 * n) (t % (8 * n)) m) in
    chunk_bit-mod n a t (i * (8 * n) + t % (8 * n)) p e
    ∙ ap (λ c. chunk_bit n c (i * (8 * n) + t % (8 * n))) (get_or_read xs i a s r [] ∙ ap (λ j. get_or xs j []) (sym k))
    ∙ h (i * (8 * n) + t % (8 * n))
    ∙ sym (ap (λ c. chunk_bit n c (i * (8 * n) + t % (8 * n))) (get_or_read ys i b w q [] ∙ ap (λ j. get_or ys j []) (sym k)))
    ∙ sym (chunk_bit-mod n b t (i * (8 * n) + t % (8 * n)) p e)

-- if the appended bits are zero past their length, so are the joined bits
pub IsZeroFrom-append : (n m : ℕ) (ys os : List (List ℕ)) (len more : ℕ) → IsZeroFrom m os more
    → ((i : ℕ) → len ≤ i → i / (8 * n) < length ys → chunks_bit n ys i ≡ chunks_bit m os (i - len))
    → IsZeroFrom n ys (len + more)
IsZeroFrom-append n m ys os len more z joined i h = elim (cases_lt (i / (8 * n)) (length ys)) [
  | inl s ↦ joined i (omega arith) s ∙ z (i - len) (omega arith)
  | inr s ↦ bit_of_past n ys i s
]
