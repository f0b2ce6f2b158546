-- A chunk that is read with the pending edits is that chunk of the pending bitmap.
use Rattle.std.proofs.Common.{◌≡◌, ℕ, List, ◌+◌, ◌*◌, ◌/◌, ◌<◌, ◌≤◌, ap, arith, sym, ◌∙◌}
use mathlib.Core.Logic.{inl, inr}
use Rattle.std.proofs.lemmas.Bool.{cases_lt}
use Rattle.std.proofs.Math.Nat.{mul-add-mod_self_left}
use Rattle.std.proofs.lemmas.Nat.{div-mul-add, mul-le}
use Rattle.bitmap_bytes.specs.Chunk.{chunk_bit, byte_of, IsChunk}
use Rattle.bitmap_core.specs.PrunedBits.{PrunedBits, pruned_bits, bit_at, chunk}
use Rattle.bitmap_bytes.proofs.Chunks.Bits.{chunk_bit-mod}
use Rattle.bitmap_bytes.proofs.Bytes.Made.{bytes_are, byte_same, map_range_same}
use Rattle.bitmap_core.proofs.Pruned.Positions.{place, bit_past}
use Rattle.historical_bitmap.specs.Pending.{PendingEdits, pending_bits, pending_chunk, PendingFits}
use Rattle.historical_bitmap.proofs.Pending.Edits.{pending_len, pending_at, chunk_bit_is, chunk_bit_past}

-- n bytes that have the bits of chunk i are that chunk
pub chunk_with_bits : (n : ℕ) (b : PrunedBits) (i : ℕ) (bytes : List ℕ) → 0 < n → IsChunk n bytes → ((k : ℕ) → k / (8 * n) ≡ i → chunk_bit n bytes k ≡ bit_at n b k) → bytes ≡ chunk n b i
chunk_with_bits n b i bytes pos is same =
    bytes_are n bytes (λ t. bit_at n b (8 * n * i + t)) is.len is.bytes (λ t h.
    chunk_bit-mod n bytes t (8 * n * i + t) pos (sym (mul-add-mod_self_left (8 * n) i t)) ∙ same (8 * n * i + t) (index t h))
    ∙ map_range_same (λ j. byte_of (λ t. bit_at n b (8 * n * i + (8 * j + t)))) (λ j. byte_of (λ t. bit_at n b (8 * n * i + 8 * j + t))) 0 n (λ j l h.
    byte_same (λ t. bit_at n b (8 * n * i + (8 * j + t))) (λ t. bit_at n b (8 * n * i + 8 * j + t)) (λ t s. ap (λ k. bit_at n b k) (omega arith)))
  where
    index : (t : ℕ) → t < 8 * n → (8 * n * i + t) / (8 * n) ≡ i
    index t h = let e : 8 * n * i + t ≡ i * (8 * n) + t = omega arith in ap (λ k. k / (8 * n)) e ∙ div-mul-add i (8 * n) t h

-- each bit of a chunk with the pending edits, even past the pending length
pub pending_chunk_bit : (n : ℕ) (b : PrunedBits) (l : PendingEdits) (i k : ℕ) → 0 < n → PendingFits n b l → l.pruned ≤ i → k / (8 * n) ≡ i → chunk_bit n (pending_chunk n b l i) k ≡ bit_at n (pending_bits n b l) k
pending_chunk_bit n b l i k pos fits low e =
    let prefix : 8 * n * l.pruned ≤ k = omega (arith, mul-le (8 * n) l.pruned (8 * n) i (omega arith) low, place (8 * n) k, ap (λ y. 8 * n * y) e) in
    let above : pruned_bits n b ≤ k = omega (arith, prefix, mul-le (8 * n) b.pruned (8 * n) l.pruned (omega arith) fits.rises) in
    elim (cases_lt k l.len) [
      | inl h ↦ ap (λ j. chunk_bit n (pending_chunk n b l j) k) (sym e) ∙ (chunk_bit_is n b l pos fits k above h ∙ sym (pending_at n b l pos fits k prefix h))
      | inr h ↦ chunk_bit_past n b l pos fits i k (omega (arith, fits.rises, low)) e h ∙ sym (bit_past n (pending_bits n b l) k (omega (arith, h, pending_len n b l pos fits)))
    ]

pub pending_chunk_is : (n : ℕ) (b : PrunedBits) (l : PendingEdits) (i : ℕ) → 0 < n → PendingFits n b l → l.pruned ≤ i → IsChunk n (pending_chunk n b l i) → pending_chunk n b l i ≡ chunk n (pending_bits n b l) i
pending_chunk_is n b l i pos fits low is = chunk_with_bits n (pending_bits n b l) i (pending_chunk n b l i) pos is (λ k e. pending_chunk_bit n b l i k pos fits low e)
