-- The list of chunks of a change, tested in one pass. A chunk has n bytes.
use Rattle.std.specs.Prelude.{◌≡◌, ℕ, ◌+◌, ◌*◌, ◌/◌, ◌<◌, ◌≤◌, false, List, [], ◌∷◌, Some}
use Rattle.bitmap_bytes.specs.Chunk.{chunk_bit, IsChunk}
use Rattle.bitmap_core.specs.PrunedBits.{PrunedBits, chunk, IsRetainedChunk}
use Rattle.historical_bitmap.specs.Changes.{retained_bytes}
use Rattle.commit_log.specs.Entries.{Change}

-- the bytes of chunk i have no set bit from position len on
abbrev pub IsZeroFrom : ℕ → ℕ → ℕ → List ℕ → Type 0
IsZeroFrom n len i bytes = (k : ℕ) → len ≤ k → k / (8 * n) ≡ i → chunk_bit n bytes k ≡ false

-- a chunk with its bytes differs from that of a bitmap: the bitmap does not retain the chunk, or it has other bytes
abbrev pub Differs : ℕ → PrunedBits → ℕ × List ℕ → Type 0
Differs n old e = retained_bytes n old e.0 ≡ Some e.1 → ⊥

-- a chunk that a change may list: a bitmap of the new extent retains it, its bytes are those of a chunk with zeros past the length, and the old bitmap has not the same
pub record IsListed (n : ℕ) (old : PrunedBits) (pruned len : ℕ) (e : ℕ × List ℕ) : Type 0 where
  pub low : pruned ≤ e.0
  pub high : 8 * n * e.0 < len
  pub is_chunk : IsChunk n e.1
  pub zeros : IsZeroFrom n len e.0 e.1
  pub differs : Differs n old e

-- a chunk that a change to this length need not list: the old bitmap retains it, with zeros past the length
pub record IsLeftOut (n : ℕ) (old : PrunedBits) (len i : ℕ) : Type 0 where
  pub retained : IsRetainedChunk n old i
  pub zeros : IsZeroFrom n len i (chunk n old i)

-- the chunks that are listed from index `from` on: they ascend, each may be listed, and those between them may be left out, as may those after the last one
abbrev pub ListsFrom : ℕ → PrunedBits → ℕ → ℕ → ℕ → List (ℕ × List ℕ) → Type 0
ListsFrom n old pruned len from [] = (i : ℕ) → from ≤ i → 8 * n * i < len → IsLeftOut n old len i
ListsFrom n old pruned len from (e ∷ es) =
    (from ≤ e.0)
    × IsListed n old pruned len e
    × ((i : ℕ) → from ≤ i → i < e.0 → IsLeftOut n old len i)
    × ListsFrom n old pruned len (e.0 + 1) es

-- a change lists the chunks that differ, and no others
abbrev pub IsListOfChanges : ℕ → PrunedBits → Change → Type 0
IsListOfChanges n old c = ListsFrom n old c.pruned c.len c.pruned c.chunks
