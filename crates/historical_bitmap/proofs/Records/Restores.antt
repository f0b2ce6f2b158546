-- A record that leads from the newer bitmap to the older one rebuilds the older one.
use Rattle.std.proofs.Common.{◌≡◌, ℕ, ◌*◌, ◌/◌, ◌%◌, ◌<◌, List, refl, ap, arith, sym, ◌∙◌}
use Rattle.std.proofs.Math.Nat.{mod-mod}
use Rattle.std.proofs.lemmas.Nat.{le-div, mod_below}
use Rattle.std.specs.Prelude.{Option, Some, None, MatchOption}
use Rattle.bitmap_bytes.specs.Chunk.{chunk_bit}
use Rattle.bitmap_core.specs.PrunedBits.{PrunedBits, bit_at, IsRetained, IsRetainedChunk, chunk}
use Rattle.bitmap_bytes.proofs.Chunks.Bits.{chunk_bit-mod}
use Rattle.bitmap_core.proofs.Pruned.Positions.{place, same_from_bits, chunk_bit_of_chunk}
use Rattle.historical_bitmap.specs.Record.{ReverseRecord, kept, bit_or_else, before, IsUnchanged, LeadsBack}

-- the chunk of a retained position is retained
pub has_chunk : (n : ℕ) (b : PrunedBits) (k : ℕ) → 0 < n → IsRetained n b k → IsRetainedChunk n b (k / (8 * n))
has_chunk n b k pos h = (le-div b.pruned k (8 * n) (omega arith) (omega (arith, h.0)), omega (arith, h.1, place (8 * n) k))

-- the bytes of the chunk of position k have its bit
pub bit_in_chunk : (n : ℕ) (b : PrunedBits) (k : ℕ) → 0 < n → chunk_bit n (chunk n b (k / (8 * n))) k ≡ bit_at n b k
bit_in_chunk n b k pos =
    chunk_bit-mod n (chunk n b (k / (8 * n))) k (k % (8 * n)) pos (sym (mod-mod k (8 * n)))
    ∙ (chunk_bit_of_chunk n b (k / (8 * n)) (k % (8 * n)) pos (mod_below k (8 * n) (omega arith))
    ∙ ap (λ j. bit_at n b j) (place (8 * n) k))

bit_led_back : (n : ℕ) (older newer : PrunedBits) (k : ℕ) (o : Option (List ℕ)) → 0 < n → IsRetained n older k
    → MatchOption o (IsUnchanged n older newer (k / (8 * n))) (λ bytes. bytes ≡ chunk n older (k / (8 * n)))
    → bit_or_else n o newer k ≡ bit_at n older k
bit_led_back n older newer k None pos h unchanged = (unchanged k refl h).1
bit_led_back n older newer k (Some bytes) pos h e = ap (λ c. chunk_bit n c k) e ∙ bit_in_chunk n older k pos

-- the bitmap before the commit, rebuilt from the record, is the older bitmap
pub before_is : (n : ℕ) (r : ReverseRecord) (older newer : PrunedBits) → 0 < n → LeadsBack n r older newer → before n r newer ≡ older
before_is n r older newer pos h =
    let led : (k : ℕ) → IsRetained n older k → bit_or_else n (kept r (k / (8 * n))) newer k ≡ bit_at n older k =
    λ k has. bit_led_back n older newer k (kept r (k / (8 * n))) pos has (h.chunks (k / (8 * n)) (has_chunk n older k pos has)) in
    rw (h.pruned, h.len) (same_from_bits n older (λ k. bit_or_else n (kept r (k / (8 * n))) newer k) led)
