-- A commit of a whole new bitmap, in which every chunk of the current one is pruned. A chunk has n bytes.
use Rattle.std.specs.Prelude.{ℕ, List, ◌++◌, map}
use Rattle.bitmap_core.specs.PrunedBits.{PrunedBits, bit_len, chunk}
use Rattle.historical_bitmap.specs.Changes.{chunk_total}
use Rattle.historical_bitmap.specs.Edits.{from_to}
use Rattle.historical_bitmap.specs.Record.{ChunkDiff, ReverseRecord}
use Rattle.historical_bitmap.specs.Record.ChunkDiff.{Added, Pruned}

-- the indices of the chunks that a bitmap retains, ascending; an incomplete last one counts
abbrev pub retained_chunks : ℕ → PrunedBits → List ℕ
retained_chunks n b = from_to b.pruned (chunk_total n b)

-- the entries of the chunks that the old bitmap retains: each is pruned, and comes with its bytes
abbrev pub pruned_entries : ℕ → PrunedBits → List (ℕ × ChunkDiff)
pruned_entries n old = map (λ i. (i, Pruned (chunk n old i))) (retained_chunks n old)

-- the entries of the chunks that the new bitmap retains: each is added
abbrev pub added_entries : ℕ → PrunedBits → List (ℕ × ChunkDiff)
added_entries n new = map (λ i. (i, Added)) (retained_chunks n new)

-- the record of the commit: it has no entry for a chunk that neither bitmap retains
abbrev pub replaced_record : ℕ → PrunedBits → PrunedBits → ReverseRecord
replaced_record n old new =
    record {
      len = bit_len n old;
      pruned = old.pruned;
      entries = pruned_entries n old ++ added_entries n new;
    }

-- a record with some entries appended
abbrev pub with_entries : ReverseRecord → List (ℕ × ChunkDiff) → ReverseRecord
with_entries r more = record { len = r.len; pruned = r.pruned; entries = r.entries ++ more }
