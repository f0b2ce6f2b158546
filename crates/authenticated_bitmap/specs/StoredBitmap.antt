-- The digests that are stored as the chunks of a bitmap of width 32.
use Rattle.std.specs.Prelude.{◌≡◌, ℕ, ◌*◌, ◌/◌, List, length, map}
use Rattle.std.specs.List.{range_with_len}
use Rattle.bitmap_bytes.specs.Chunk.{chunk_from}
use Rattle.bitmap_core.specs.Meaning.{Meaning, pruned_meaning}
use Rattle.bitmap_core.specs.PrunedBits.{bit_len}
use Rattle.historical_bitmap.specs.Pending.{PendingEdits}
use Rattle.historical_bitmap.specs.View.{View, pending_of}

-- the chunks of a bitmap of width 32, by absolute index, without a partly used last one
abbrev pub full_chunks : Meaning → List (List ℕ)
full_chunks m = map (chunk_from 32 m.bit) (range_with_len 0 (m.len / 256))

-- the digests that the chunks of a batch of width 32 are
abbrev pub digests_in : View PendingEdits → List (List ℕ)
digests_in v = full_chunks (pruned_meaning 32 (pending_of 32 v))

-- a batch of width 32 has whole chunks, none of which is pruned
pub record HasWholeChunks (v : View PendingEdits) : Type 0 where
  pub pruned : (pending_of 32 v).pruned ≡ 0
  pub whole : bit_len 32 (pending_of 32 v) ≡ 256 * length (digests_in v)

-- a batch has the current bitmap, the commits and the last number of another
pub record IsOnBaseOf (old new : View PendingEdits) : Type 0 where
  pub current : new.current ≡ old.current
  pub commits : new.commits ≡ old.commits
  pub last : new.last ≡ old.last
