-- The meaning of a bitmap with a pruned prefix, as readers see it.
use Rattle.std.proofs.Common.{◌≡◌, ℕ, ◌+◌, ◌-◌, ◌*◌, ◌/◌, ◌%◌, ◌^◌, ◌<◌, List, ap, ◌∙◌, arith}
use Rattle.std.proofs.Math.Nat.{div-le_self, div-add-mod}
use Rattle.bitmap_bytes.specs.Chunk.{chunk_bit}
use Rattle.bitmap_core.specs.PrunedBits.{PrunedBits, bit_len, chunk}
use Rattle.bitmap_core.specs.Meaning.{pruned_meaning, IsLawful, ShowsChunk}
use Rattle.bitmap_core.proofs.Pruned.Positions.{chunk_bit_of_chunk}

pub pruned_lawful : (n : ℕ) (b : PrunedBits) → 0 < n → 8 * n < 2 ^ 64 → bit_len n b < 2 ^ 64 → IsLawful n (pruned_meaning n b)
pruned_lawful n b p w h = record {
  width = record { positive = p; fits = w };
  pruned_within = omega arith;
  len_fits = h;
  chunks_fit = omega (arith, div-le_self (bit_len n b) (8 * n));
}

-- a chunk of the bitmap shows its bits
pub pruned_shows : (n : ℕ) (b : PrunedBits) (c : ℕ) (bytes : List ℕ) → 0 < n → bytes ≡ chunk n b c → ShowsChunk n (pruned_meaning n b) c bytes
pruned_shows n b c bytes p e k h s = ap (λ x. chunk_bit n x k) e ∙ chunk_bit_of_chunk n b c k p h

-- the start of the last chunk, and the number of its bits in use
pub last_used : (w len : ℕ) → 0 < len → w * ((len - 1) / w) + ((len - 1) % w + 1) ≡ len
last_used w len h = omega (arith, div-add-mod (len - 1) w)
