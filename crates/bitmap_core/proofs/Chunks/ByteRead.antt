-- A byte of chunks, as a chunk of its own.
use Rattle.std.proofs.Common.{◌≡◌, ℕ, ◌*◌, ◌/◌, ◌%◌, ◌<◌, List, [], ◌∷◌, Bool, false, length, get_or, eqb, sym, ap, ◌∙◌, inl, inr, arith}
use Rattle.std.specs.Int.{bit_at}
use Rattle.std.proofs.lemmas.Bool.{cases_lt}
use Rattle.std.proofs.lemmas.List.{get_or_past, get_or_read}
use Rattle.bitmap_bytes.specs.Chunk.{chunk_bit}
use Rattle.bitmap_bytes.specs.Bits.{bits, chunks_bit, IsZeroFrom}
use Rattle.bitmap_bytes.proofs.Lists.Bits.{get_or-bits, len_is}
use Rattle.bitmap_core.proofs.Chunks.ByteWritten.{same_chunk}

-- the byte of bit i has the bits of the chunks that are in one byte with bit i
pub byte_read : (n : ℕ) (xs : List (List ℕ)) (chunk : List ℕ) (i at : ℕ) → i / (8 * n) < length xs → chunk ≡ get_or xs (i / (8 * n)) chunk → at ≡ i / 8 % n
    → (k : ℕ) → k / 8 ≡ i / 8 → chunk_bit 1 (get_or chunk at 0 ∷ []) k ≡ chunks_bit n xs k
byte_read n xs chunk i at within is place k same =
    let one : k / 8 % 1 ≡ 0 = omega arith in
    ap (λ x. eqb (bit_at (get_or (get_or chunk at 0 ∷ []) x 0) (k % 8)) 1) one
    ∙ ap (λ x. eqb (bit_at (get_or chunk x 0) (k % 8)) 1) (place ∙ ap (λ x. x % n) (sym same))
    ∙ ap (λ c. chunk_bit n c k) (get_or_read xs (i / (8 * n)) chunk within is [] ∙ ap (λ x. get_or xs x []) (sym (same_chunk n k i same)))

-- a bit of the chunks is one of the list, also past its end
pub bit_read : (n : ℕ) (xs : List (List ℕ)) (len : ℕ) (v : List Bool) → bits n xs len ≡ v → IsZeroFrom n xs len → (k : ℕ) → chunks_bit n xs k ≡ get_or v k false
bit_read n xs len v e zero k = elim (cases_lt k len) [
  | inl h ↦ sym (get_or-bits n xs len k false h) ∙ ap (λ l. get_or l k false) e
  | inr h ↦ zero k h ∙ sym (get_or_past v k false (omega (arith, len_is n xs len v e)))
]
