-- The reverse record of a commit, which rebuilds the bitmap before the commit from the bitmap after it. A chunk has n bytes.
use Rattle.std.specs.Prelude.{◌≡◌, ℕ, ◌*◌, ◌/◌, Bool, List, Option, Some, None, MatchOption, nat_eq}
use Rattle.std.specs.Map.{lookup}
use Rattle.bitmap_bytes.specs.Chunk.{chunk_bit}
use Rattle.bitmap_core.specs.PrunedBits.{PrunedBits, bit_len, bit_at, IsRetained, IsRetainedChunk, from_bits, chunk}

-- what a commit did to a chunk: changed it, cut it off, added it or pruned it; all but an added one come with the bytes from before
pub data ChunkDiff : Type 0 where
  Modified : (bytes : List ℕ) → ChunkDiff
  Removed : (bytes : List ℕ) → ChunkDiff
  Added : ChunkDiff
  Pruned : (bytes : List ℕ) → ChunkDiff

-- the length and the pruned count before a commit, and its entries: what it did to chunks, by index
pub record ReverseRecord : Type 0 where
  pub len : ℕ
  pub pruned : ℕ
  pub entries : List (ℕ × ChunkDiff)

-- the old bytes that an entry keeps
abbrev pub kept_bytes : ChunkDiff → Option (List ℕ)
kept_bytes (Modified bytes) = Some bytes
kept_bytes (Removed bytes) = Some bytes
kept_bytes Added = None
kept_bytes (Pruned bytes) = Some bytes

-- the old bytes that an entry keeps, if there is an entry
abbrev pub bytes_of : Option ChunkDiff → Option (List ℕ)
bytes_of None = None
bytes_of (Some diff) = kept_bytes diff

-- the old bytes that a record keeps of chunk i
abbrev pub kept : ReverseRecord → ℕ → Option (List ℕ)
kept r i = bytes_of (lookup (nat_eq i) r.entries)

-- bit k of the given bytes of its chunk, or of the bitmap if no bytes are given
abbrev pub bit_or_else : ℕ → Option (List ℕ) → PrunedBits → ℕ → Bool
bit_or_else n None b k = bit_at n b k
bit_or_else n (Some bytes) b k = chunk_bit n bytes k

-- the bitmap before a commit: the bits that its record keeps, and the other bits of the bitmap after it
abbrev pub before : ℕ → ReverseRecord → PrunedBits → PrunedBits
before n r newer = from_bits n r.pruned r.len (λ k. bit_or_else n (kept r (k / (8 * n))) newer k)

-- each bit of chunk i that the older bitmap retains is retained in the newer one, with the same value
abbrev pub IsUnchanged : ℕ → PrunedBits → PrunedBits → ℕ → Type 0
IsUnchanged n older newer i = (k : ℕ) → k / (8 * n) ≡ i → IsRetained n older k
    → IsRetained n newer k × (bit_at n newer k ≡ bit_at n older k)

-- a record leads from the newer bitmap to the older one: it has the length and pruned count of the older one, and keeps the bytes of each of its chunks that changed
pub record LeadsBack (n : ℕ) (r : ReverseRecord) (older newer : PrunedBits) : Type 0 where
  pub len : r.len ≡ bit_len n older
  pub pruned : r.pruned ≡ older.pruned
  pub chunks : (i : ℕ) → IsRetainedChunk n older i
      → MatchOption (kept r i) (IsUnchanged n older newer i) (λ bytes. bytes ≡ chunk n older i)
