-- A batch that pops, pushes, rewrites and prunes the same chunks. Each chunk has four bytes.
-- Of 96 true bits 40 are popped, 50 false ones pushed, bit 60 is set, and the first chunk is pruned.
use Rattle.std.specs.Prelude.{◌≡◌, true, false, List, [], ◌∷◌, ◌++◌, replicate, nat_eq}
use Rattle.std.specs.Set.{distinct_count}
use Rattle.std.proofs.Common.{refl}
use Rattle.bitmap_core.specs.PrunedBits.{PrunedBits, bit_len}
use Rattle.historical_bitmap.specs.Edits.{Edit, after_all, touched}
use Rattle.historical_bitmap.specs.Edits.Edit.{Push, Pop, Set, Prune}
use Rattle.historical_bitmap.specs.Record.{ReverseRecord, before}
use Rattle.historical_bitmap.specs.Record.ChunkDiff.{Modified, Added, Pruned}
use Rattle.historical_bitmap.specs.Undo.{undone_in_steps}
use Rattle.historical_bitmap.specs.Pending.{PendingEdits, pending_bits, marked_chunks, diff_of, applied_in_steps}

abbrev base : PrunedBits
base = record { pruned = 0; bits = replicate 96 true }

abbrev batch : List Edit
batch = replicate 40 Pop ++ replicate 50 (Push false) ++ Set 60 true ∷ Prune 32 ∷ []

-- one pruned chunk; the 24 true bits that were not popped, four false ones, the one that was set, and 45 false ones
abbrev left : PrunedBits
left = record { pruned = 1; bits = replicate 24 true ++ replicate 4 false ++ true ∷ replicate 45 false }

batch_leaves : after_all 4 base batch ≡ left
batch_leaves = refl

length_left : bit_len 4 left ≡ 106
length_left = refl

touches_four : distinct_count nat_eq (touched 4 base batch) ≡ 4
touches_four = refl

-- bit 60 is bit 4 of the fourth byte of chunk 1; the chunks 2 and 3 have only false bits
abbrev pub edits_fit : PendingEdits
edits_fit = record { len = 106; pruned = 1; edited = (1, 255 ∷ 255 ∷ 255 ∷ 16 ∷ []) ∷ (2, replicate 4 0) ∷ (3, replicate 4 0) ∷ []; captured = replicate 4 255 ∷ [] }

pending_leaves : pending_bits 4 base edits_fit ≡ left
pending_leaves = refl

pending_leaves_in_steps : applied_in_steps 4 base edits_fit ≡ left
pending_leaves_in_steps = refl

marks_three_edited_and_one_pruned : marked_chunks 4 base edits_fit ≡ 1 ∷ 2 ∷ 3 ∷ 0 ∷ []
marks_three_edited_and_one_pruned = refl

-- the record has four entries, one per touched chunk
abbrev back : ReverseRecord
back = record { len = 96; pruned = 0; entries = (0, Pruned (replicate 4 255)) ∷ (1, Modified (replicate 4 255)) ∷ (2, Modified (replicate 4 255)) ∷ (3, Added) ∷ [] }

first_entry : diff_of 4 base edits_fit 0 ≡ Pruned (replicate 4 255)
first_entry = refl

second_entry : diff_of 4 base edits_fit 1 ≡ Modified (replicate 4 255)
second_entry = refl

third_entry : diff_of 4 base edits_fit 2 ≡ Modified (replicate 4 255)
third_entry = refl

fourth_entry : diff_of 4 base edits_fit 3 ≡ Added
fourth_entry = refl

restored : before 4 back left ≡ base
restored = refl

restored_in_steps : undone_in_steps 4 back left ≡ base
restored_in_steps = refl
