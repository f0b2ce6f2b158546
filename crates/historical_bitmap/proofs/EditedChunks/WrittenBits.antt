-- A bit is written in a chunk.
use Rattle.std.proofs.Common.{◌≡◌, ℕ, ◌/◌, ◌%◌, ◌<◌, Bool, List, length, get_or, set, eqb, ◌∙◌}
use mathlib.Core.Logic.{◌≢◌}
use Rattle.std.specs.Int.{bit_at}
use Rattle.bitmap_bytes.specs.Chunk.{chunk_bit, IsBitWritten}
use Rattle.bitmap_bytes.proofs.Chunks.Bits.{chunk_bit-set_here, chunk_bit-set_other}

-- its byte is replaced
pub byte_replaced : (n : ℕ) (chunk : List ℕ) (bit : ℕ) (value : Bool) (byte : ℕ) → 0 < n → length chunk ≡ n → eqb (bit_at byte (bit % 8)) 1 ≡ value
    → ((k : ℕ) → k < 8 → k ≢ bit % 8 → bit_at byte k ≡ bit_at (get_or chunk (bit / 8 % n) 0) k)
    → IsBitWritten n chunk (set chunk (bit / 8 % n) byte) bit value
byte_replaced n chunk bit value byte pos len here others = record {
  here = chunk_bit-set_here n chunk bit byte pos len ∙ here;
  others = chunk_bit-set_other n chunk bit byte pos len others;
}
