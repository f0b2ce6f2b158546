-- A byte written to chunks, and the list of their bits.
use Rattle.std.proofs.Common.{◌≡◌, ℕ, ◌+◌, ◌-◌, ◌*◌, ◌/◌, ◌%◌, ◌<◌, Bool, false, List, [], ◌++◌, length, get_or, set, eqb, sym, ap, ◌∙◌, inl, inr, arith}
use Rattle.std.specs.Int.{bit_at}
use Rattle.std.proofs.Math.Nat.{div-add-mod, div-div-eq-div-mul}
use Rattle.std.proofs.lemmas.List.{length-set, get_or_read, length-append, get_or_append_left, get_or-append_right}
use Rattle.std.proofs.lemmas.List.FromFn.{length-map-range_with_len, get_or-map-range_with_len}
use Rattle.std.proofs.lemmas.Bool.{cases_eq, cases_lt}
use Rattle.bitmap_bytes.specs.Chunk.{chunk_bit, byte_bits, IsByteWritten}
use Rattle.bitmap_bytes.specs.Bits.{bits, IsBytePut, IsChunkCount, IsZeroFrom}
use Rattle.bitmap_bytes.proofs.Lists.Bits.{get_or-bits, bits_are, len_is}
use Rattle.bitmap_bytes.proofs.Chunks.Lists.{chunks_bit-set_here, chunks_bit-set_other}
use Rattle.bitmap_bytes.proofs.Chunks.Places.{same_place}

-- bytes at the same place of chunks with the same index are the same byte
same_byte : (n i j : ℕ) → i / (8 * n) ≡ j / (8 * n) → i / 8 % n ≡ j / 8 % n → i / 8 ≡ j / 8
same_byte n i j q r = same_place n (i / 8) (j / 8) (div-div-eq-div-mul i 8 n ∙ q ∙ sym (div-div-eq-div-mul j 8 n)) r

pub same_chunk : (n i j : ℕ) → i / 8 ≡ j / 8 → i / (8 * n) ≡ j / (8 * n)
same_chunk n i j e = sym (div-div-eq-div-mul i 8 n) ∙ ap (λ x. x / n) e ∙ div-div-eq-div-mul j 8 n

pub IsBytePut-chunk : (n : ℕ) (xs : List (List ℕ)) (i byte : ℕ) (old new : List ℕ) → i / (8 * n) < length xs
    → old ≡ get_or xs (i / (8 * n)) old → IsByteWritten n old new i byte
    → IsBytePut n xs (set xs (i / (8 * n)) new) i byte
IsBytePut-chunk n xs i byte old new w r h = record {
  here = λ j e. chunks_bit-set_here n xs (i / (8 * n)) new j w (same_chunk n j i e) ∙ h.here j (ap (λ x. x % n) e);
  others = λ j d. elim (cases_eq (j / (8 * n)) (i / (8 * n))) [
    | inl e ↦
        chunks_bit-set_here n xs (i / (8 * n)) new j w e
        ∙ h.others j (λ q. d (same_byte n j i e q))
        ∙ ap (λ c. chunk_bit n c j) (get_or_read xs (i / (8 * n)) old w r [] ∙ ap (λ a. get_or xs a []) (sym e))
    | inr e ↦ chunks_bit-set_other n xs (i / (8 * n)) new j e
  ];
  count = length-set xs (i / (8 * n)) new;
}

pub IsChunkCount-byte : (n k len : ℕ) → len % 8 ≡ 0 → IsChunkCount n k (len + 1) → IsChunkCount n k (len + 8)
IsChunkCount-byte n k len a c =
    let d = div-add-mod len 8 in
    let e : 8 * n * k ≡ 8 * (n * k) = grind arith in
    (omega (arith, c.0), omega (arith, c.1))

pub IsZeroFrom-byte : (n : ℕ) (xs ys : List (List ℕ)) (len byte : ℕ) → len % 8 ≡ 0 → IsBytePut n xs ys len byte
    → IsZeroFrom n xs len
    → IsZeroFrom n ys (len + 8)
IsZeroFrom-byte n xs ys len byte a p z i h = p.others i (λ e. absurd (omega arith)) ∙ z i (omega arith)

pub bits-byte : (n : ℕ) (xs ys : List (List ℕ)) (len byte : ℕ) (v : List Bool) → len % 8 ≡ 0 → IsBytePut n xs ys len byte
    → bits n xs len ≡ v
    → bits n ys (len + 8) ≡ v ++ byte_bits byte
bits-byte n xs ys len byte v a p e =
    let l = len_is n xs len v e in
    let w = length-map-range_with_len (λ t. eqb (bit_at byte t) 1) 0 8 in
    bits_are n ys (len + 8) (v ++ byte_bits byte) (omega (arith, length-append v (byte_bits byte))) (λ i s. elim (cases_lt i len) [
      | inl h ↦
          p.others i (λ q. absurd (omega arith))
          ∙ sym (get_or-bits n xs len i false h)
          ∙ ap (λ x. get_or x i false) e
          ∙ sym (get_or_append_left v (byte_bits byte) false i (omega arith))
      | inr h ↦
          let r : i % 8 ≡ i - len = omega arith in
          p.here i (omega arith)
          ∙ ap (λ t. eqb (bit_at byte t) 1) r
          ∙ sym (get_or-map-range_with_len (λ t. eqb (bit_at byte t) 1) 0 8 (i - len) (i - len) false (omega arith) (omega arith))
          ∙ sym (get_or-append_right v (byte_bits byte) len i false l h)
    ])
