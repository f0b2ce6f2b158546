-- The chunks in which two states differ. Each chunk has one byte.
use Rattle.std.specs.Prelude.{◌≡◌, ◌++◌, [], ◌∷◌, Some, None, replicate, true, false}
use Rattle.std.proofs.Common.{refl}
use Rattle.bitmap_core.specs.PrunedBits.{PrunedBits}
use Rattle.historical_bitmap.specs.Changes.{changed, changed_between, patched, retained_bytes}

-- twenty true bits in three chunks
abbrev twenty : PrunedBits
twenty = record { pruned = 0; bits = replicate 20 true }

-- the same with bit 9 cleared
abbrev one_cleared : PrunedBits
one_cleared = record { pruned = 0; bits = replicate 9 true ++ false ∷ replicate 10 true }

-- the first chunk of twenty bits pruned, and the last bits popped down to twelve
abbrev pruned_and_popped : PrunedBits
pruned_and_popped = record { pruned = 1; bits = replicate 4 true }

-- three zeros, and one more that is pushed: the bytes do not change
abbrev three_zeros : PrunedBits
three_zeros = record { pruned = 0; bits = replicate 3 false }

abbrev four_zeros : PrunedBits
four_zeros = record { pruned = 0; bits = replicate 4 false }

-- no chunk of a state differs from the same state
same_state : changed 1 twenty twenty ≡ []
same_state = refl

-- one bit differs, in chunk 1
one_bit : changed 1 twenty one_cleared ≡ 1 ∷ []
one_bit = refl

-- chunk 0 is pruned, chunk 1 has four bits fewer, and chunk 2 is cut off
all_three : changed 1 twenty pruned_and_popped ≡ 0 ∷ 1 ∷ 2 ∷ []
all_three = refl

-- in the other direction the same chunks differ
all_three_back : changed 1 pruned_and_popped twenty ≡ 0 ∷ 1 ∷ 2 ∷ []
all_three_back = refl

-- a pruned chunk has no bytes, and a chunk that starts at the length has none
bytes_of_pruned : retained_bytes 1 pruned_and_popped 0 ≡ None
bytes_of_pruned = refl

bytes_of_last : retained_bytes 1 pruned_and_popped 1 ≡ Some (15 ∷ [])
bytes_of_last = refl

bytes_past : retained_bytes 1 pruned_and_popped 2 ≡ None
bytes_past = refl

-- a zero pushed into an existing chunk does not change its bytes: only the length differs
zero_pushed : changed 1 three_zeros four_zeros ≡ []
zero_pushed = refl

-- the push of a first zero adds a chunk
first_zero : changed 1 (record { pruned = 0; bits = [] }) three_zeros ≡ 0 ∷ []
first_zero = refl

-- between two numbers, if both are kept and ascend
between_kept : changed_between 1 ((3, twenty) ∷ (5, one_cleared) ∷ []) 3 5 ≡ Some (1 ∷ [])
between_kept = refl

between_back : changed_between 1 ((3, twenty) ∷ (5, one_cleared) ∷ []) 5 3 ≡ None
between_back = refl

between_absent : changed_between 1 ((3, twenty) ∷ (5, one_cleared) ∷ []) 3 4 ≡ None
between_absent = refl

between_same : changed_between 1 ((3, twenty) ∷ (5, one_cleared) ∷ []) 5 5 ≡ Some []
between_same = refl

-- one state with the chunks that differ, the length and the pruned count of the other is the other
patched_to_shorter : patched 1 twenty pruned_and_popped (0 ∷ 1 ∷ 2 ∷ []) ≡ pruned_and_popped
patched_to_shorter = refl

patched_to_longer : patched 1 pruned_and_popped twenty (0 ∷ 1 ∷ 2 ∷ []) ≡ twenty
patched_to_longer = refl

-- if a chunk is left out, its bits do not change
one_left_out : patched 1 twenty one_cleared [] ≡ twenty
one_left_out = refl
