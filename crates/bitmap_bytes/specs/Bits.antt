-- Lists of bits that are packed into chunks of n bytes.
use Rattle.std.specs.Prelude.{◌≡◌, ℕ, ◌+◌, ◌*◌, ◌/◌, ◌%◌, ◌<◌, ◌≤◌, Bool, false, List, [], length, map, ◌==◌, slice_index_or}
use Rattle.std.specs.List.{range_with_len}
use Rattle.std.specs.Int.{bit_at, div_ceil}
use Rattle.bitmap_bytes.specs.Chunk.{chunk_bit, IsChunk, IsWidth}

-- bit i of a list of chunks of n bytes: bit i mod 8n of chunk i / 8n
abbrev pub chunks_bit : ℕ → List (List ℕ) → ℕ → Bool
chunks_bit n chunks i = chunk_bit n (slice_index_or chunks (i / (8 * n)) []) i

-- the first len bits of a list of chunks of n bytes, in order
unfoldable pub bits : ℕ → List (List ℕ) → ℕ → List Bool
bits n chunks len = map (chunks_bit n chunks) (range_with_len 0 len)

-- every bit of the chunks at or above len is zero
abbrev pub IsZeroFrom : ℕ → List (List ℕ) → ℕ → Type 0
IsZeroFrom n chunks len = (i : ℕ) → len ≤ i → chunks_bit n chunks i ≡ false

-- k is the number of chunks of n bytes that len bits fill, including a partly used last chunk
abbrev pub IsChunkCount : ℕ → ℕ → ℕ → Type 0
IsChunkCount n k len = (len ≤ 8 * n * k) × (8 * n * k < len + 8 * n)

-- the chunks of n bytes hold exactly len bits: there are as many chunks as the bits fill, and the bits past len are zero
pub record IsPacked (n : ℕ) (chunks : List (List ℕ)) (len : ℕ) : Type 0 where
  pub width : IsWidth n
  pub count : IsChunkCount n (length chunks) len
  pub zero : IsZeroFrom n chunks len

-- the new chunks have value as bit i, and every other bit as the old chunks have it
pub record IsBitPut (n : ℕ) (old new : List (List ℕ)) (i : ℕ) (value : Bool) : Type 0 where
  pub here : chunks_bit n new i ≡ value
  pub others : (j : ℕ) → (j ≡ i → ⊥) → chunks_bit n new j ≡ chunks_bit n old j
  pub count : length new ≡ length old

-- each item of the list is a chunk of n bytes
abbrev pub AreChunks : ℕ → List (List ℕ) → Type 0
AreChunks n chunks = (i : ℕ) → i < length chunks → IsChunk n (slice_index_or chunks i [])

-- the new chunks have byte as the byte of bit i, and every other byte as the old chunks have it
pub record IsBytePut (n : ℕ) (old new : List (List ℕ)) (i byte : ℕ) : Type 0 where
  pub here : (j : ℕ) → j / 8 ≡ i / 8 → chunks_bit n new j ≡ (bit_at byte (j % 8) == 1)
  pub others : (j : ℕ) → (j / 8 ≡ i / 8 → ⊥) → chunks_bit n new j ≡ chunks_bit n old j
  pub count : length new ≡ length old

-- the number of chunks of n bytes that len bits fill, including a partly used last chunk
abbrev pub chunk_count : ℕ → ℕ → ℕ
chunk_count n len = div_ceil len (8 * n)
