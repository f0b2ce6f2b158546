-- What is fed to a hasher.
use Rattle.std.specs.Prelude.{◌≡◌, ℕ, Bool, true, List, ◌++◌, length, map}
use Rattle.std.specs.List.{range_with_len}
use Rattle.std.specs.Hash as fed
use Rattle.std.specs.Cmp.{booleans_Decides}
use Rattle.std.specs.Cmp.Lexicographic.{pointwise, pointwise_decides}
use Rattle.std.proofs.Math.Bool.{beq}
use Rattle.std.proofs.Common.{ap}
use Rattle.bitmap_bytes.specs.Chunk.{chunk_of}
use Rattle.bitmap_bytes.specs.Bits.{chunk_count}

-- what a hash of the bits v feeds to the hasher: their number, and then their chunks of n bytes
unfoldable pub fed_bits : ℕ → List Bool → List (List ℕ)
fed_bits n v = fed.u64 (length v)
    ++ map (chunk_of n v) (range_with_len 0 (chunk_count n (length v)))

-- equal lists of bits feed the same to the hasher
pub fed_bits-alike : (n : ℕ) (v w : List Bool) → pointwise beq v w ≡ true
    → fed_bits n v ≡ fed_bits n w
fed_bits-alike n v w e = ap (fed_bits n) ((pointwise_decides booleans_Decides v w).0 e)
