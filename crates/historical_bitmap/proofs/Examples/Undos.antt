-- Reverse records, and what undoing them gives. Each chunk has one byte.
use Rattle.std.specs.Prelude.{◌≡◌, true, false, [], ◌∷◌, ◌++◌, Some, None, replicate}
use Rattle.std.proofs.Common.{refl}
use Rattle.bitmap_core.specs.PrunedBits.{PrunedBits}
use Rattle.historical_bitmap.specs.Record.{ReverseRecord, kept_bytes, kept, bit_or_else, before}
use Rattle.historical_bitmap.specs.Record.ChunkDiff.{Modified, Removed, Added, Pruned}
use Rattle.historical_bitmap.specs.Replaced.{replaced_record}
use Rattle.historical_bitmap.specs.Undo.{resized, put_back, pruned_chunk_bytes, undone_in_steps}

-- twelve true bits: the bytes FF and 0F
abbrev pub twelve : PrunedBits
twelve = record { pruned = 0; bits = replicate 12 true }

-- the old bytes of an entry; an added chunk has none
changed_keeps : kept_bytes (Modified (15 ∷ [])) ≡ Some (15 ∷ [])
changed_keeps = refl

made_keeps_none : kept_bytes Added ≡ None
made_keeps_none = refl

-- bit 9 of the byte 0F at chunk 1 is true, and bit 13 is false; without bytes the bit is that of the bitmap
bit_of_kept : bit_or_else 1 (Some (15 ∷ [])) (record { pruned = 0; bits = [] }) 9 ≡ true
bit_of_kept = refl

bit_past_kept : bit_or_else 1 (Some (15 ∷ [])) twelve 13 ≡ false
bit_past_kept = refl

bit_of_newer : bit_or_else 1 None twelve 9 ≡ true
bit_of_newer = refl

-- a newer state that is longer: four bits are written to chunk 1, and chunk 2 is added
abbrev longer : PrunedBits
longer = record { pruned = 0; bits = replicate 12 true ++ replicate 8 false }

abbrev from_longer : ReverseRecord
from_longer = record { len = 12; pruned = 0; entries = (1, Modified (15 ∷ [])) ∷ (2, Added) ∷ [] }

longer_restored : before 1 from_longer longer ≡ twelve
longer_restored = refl

longer_restored_in_steps : undone_in_steps 1 from_longer longer ≡ twelve
longer_restored_in_steps = refl

-- a newer state that is shorter: chunk 0 is cut to three bits, and chunk 1 is cut off
abbrev pub shorter : PrunedBits
shorter = record { pruned = 0; bits = true ∷ true ∷ true ∷ [] }

abbrev pub from_shorter : ReverseRecord
from_shorter = record { len = 12; pruned = 0; entries = (0, Modified (255 ∷ [])) ∷ (1, Removed (15 ∷ [])) ∷ [] }

shorter_restored : before 1 from_shorter shorter ≡ twelve
shorter_restored = refl

shorter_restored_in_steps : undone_in_steps 1 from_shorter shorter ≡ twelve
shorter_restored_in_steps = refl

-- without entries a record gives zeros at positions that the newer state lacks
forgetful : before 1 (record { len = 12; pruned = 0; entries = [] }) shorter ≡ record { pruned = 0; bits = replicate 3 true ++ replicate 9 false }
forgetful = refl

-- a newer state whose first chunk is pruned
abbrev pub beyond_one : PrunedBits
beyond_one = record { pruned = 1; bits = replicate 4 true }

abbrev pub from_beyond_one : ReverseRecord
from_beyond_one = record { len = 12; pruned = 0; entries = (0, Pruned (255 ∷ [])) ∷ [] }

pruned_restored : before 1 from_beyond_one beyond_one ≡ twelve
pruned_restored = refl

pruned_restored_in_steps : undone_in_steps 1 from_beyond_one beyond_one ≡ twelve
pruned_restored_in_steps = refl

-- the record keeps the old byte of chunk 0, and none of chunk 1
keeps_the_pruned_one : kept from_beyond_one 0 ≡ Some (255 ∷ [])
keeps_the_pruned_one = refl

keeps_no_other : kept from_beyond_one 1 ≡ None
keeps_no_other = refl

chunks_to_put_in_front : pruned_chunk_bytes from_beyond_one 1 ≡ (255 ∷ []) ∷ []
chunks_to_put_in_front = refl

-- a newer state whose pruned chunks reach far past the old length: the record of the commit has no entry for the chunks between
abbrev pub far : PrunedBits
far = record { pruned = 1000; bits = true ∷ [] }

abbrev pub across_a_gap : ReverseRecord
across_a_gap = record { len = 4; pruned = 0; entries = (0, Pruned (15 ∷ [])) ∷ (1000, Added) ∷ [] }

gap_record : replaced_record 1 (record { pruned = 0; bits = replicate 4 true }) far ≡ across_a_gap
gap_record = refl

gap_restored : before 1 across_a_gap far ≡ record { pruned = 0; bits = replicate 4 true }
gap_restored = refl

-- twelve bits truncated to nine, and extended to fourteen
cut : resized 1 twelve 9 ≡ record { pruned = 0; bits = replicate 9 true }
cut = refl

filled : resized 1 twelve 14 ≡ record { pruned = 0; bits = replicate 12 true ++ replicate 2 false }
filled = refl

-- the byte 05 is written to chunk 1; an added chunk keeps no bytes to write
put_in_place : put_back 1 twelve ((0, Added) ∷ (1, Modified (5 ∷ [])) ∷ []) ≡ record { pruned = 0; bits = replicate 8 true ++ true ∷ false ∷ true ∷ false ∷ [] }
put_in_place = refl

-- a chunk with two entries gets the bytes of the last
last_in_place : put_back 1 twelve ((1, Modified (5 ∷ [])) ∷ (1, Modified (3 ∷ [])) ∷ []) ≡ record { pruned = 0; bits = replicate 8 true ++ true ∷ true ∷ false ∷ false ∷ [] }
last_in_place = refl
