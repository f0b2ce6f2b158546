-- The byte encodings of bitmaps. A chunk has n bytes.
use Rattle.std.specs.Prelude.{ℕ, Bool, List, ◌++◌, length}
use Rattle.std.specs.Int.{w64, to_be_bytes}
use Rattle.std.specs.List.{range_with_len, flat_map}
use Rattle.bitmap_bytes.specs.Bits.{chunk_count}
use Rattle.bitmap_bytes.specs.Chunk.{chunk_of}
use Rattle.bitmap_core.specs.PrunedBits.{PrunedBits}

-- the encoding of a list of bits: its length in eight bytes, most significant first, and then the bytes of its chunks in order
unfoldable pub encoding : ℕ → List Bool → List ℕ
encoding n v = to_be_bytes w64 (length v)
    ++ flat_map (chunk_of n v) (range_with_len 0 (chunk_count n (length v)))

-- the encoding of a bitmap with a pruned prefix: its pruned count in eight bytes, most significant first, and then that of its bits
unfoldable pub pruned_encoding : ℕ → PrunedBits → List ℕ
pruned_encoding n b = to_be_bytes w64 b.pruned ++ encoding n b.bits
