-- Reads in place of three bits 0, 1, 1 at the positions 16 to 18, after two pruned chunks of one byte.
use Rattle.std.specs.Prelude.{◌≡◌, true, false, [], ◌∷◌, None, Some, Ok, Err, nat_lt}
use Rattle.std.proofs.Common.{refl}
use Rattle.bitmap_core.specs.Meaning.{Meaning, pruned_meaning}
use Rattle.bitmap_core.specs.PrunedBits.{PrunedBits}
use Rattle.bitmap_session.specs.Machine.{Machine, first_machine}
use Rattle.bitmap_c.specs.declared.any.AnySession.TheVariants.{Width1}
use Rattle.bitmap_c.specs.declared.queries.Query.TheVariants.{Len, PrunedChunks, NextOne, NextZero, PrevOne, PrevZero, CountOnes, SelectOne}
use Rattle.bitmap_c.specs.Packed.{packed}
use Rattle.bitmap_c.specs.Reads.{bit_read, bytes_read, chunk_read, queried, read_commit, read_shown, session_commit, session_shown}

abbrev three_bits : PrunedBits
three_bits = record { pruned = 2; bits = false ∷ true ∷ true ∷ [] }

abbrev seen : Meaning
seen = pruned_meaning 1 three_bits

-- ---- bits and chunks
first_bit : bit_read 1 seen 16 ≡ Ok 0
first_bit = refl

second_bit : bit_read 1 seen 17 ≡ Ok 1
second_bit = refl

pruned_bit : bit_read 1 seen 15 ≡ Err 3
pruned_bit = refl

bit_at_the_length : bit_read 1 seen 19 ≡ Err 2
bit_at_the_length = refl

-- bits 1 and 2 of the chunk are set, and those past the length are zero
chunk_of_three_bits : chunk_read 1 seen 17 1 ≡ Ok (6 ∷ [])
chunk_of_three_bits = refl

-- the size of the buffer is looked at first
wrong_size : chunk_read 1 seen 15 2 ≡ Err 18
wrong_size = refl

pruned_chunk : chunk_read 1 seen 15 1 ≡ Err 3
pruned_chunk = refl

-- ---- ranges as bytes
all_bits : bytes_read 1 seen 16 19 1 ≡ Ok (6 ∷ [])
all_bits = refl

-- the first bit of the range is the lowest
last_bits : bytes_read 1 seen 17 19 1 ≡ Ok (3 ∷ [])
last_bits = refl

-- the bit past the range is zero
first_bits : bytes_read 1 seen 16 18 1 ≡ Ok (2 ∷ [])
first_bits = refl

no_bits : bytes_read 1 seen 19 19 0 ≡ Ok []
no_bits = refl

-- the size of the buffer is looked at first, and then the end of the range
size_of_two_bytes : bytes_read 1 seen 15 20 2 ≡ Err 18
size_of_two_bytes = refl

past_the_length : bytes_read 1 seen 15 20 1 ≡ Err 2
past_the_length = refl

end_below_the_start : bytes_read 1 seen 18 17 0 ≡ Err 2
end_below_the_start = refl

from_a_pruned_bit : bytes_read 1 seen 15 19 1 ≡ Err 3
from_a_pruned_bit = refl

-- ten bits, of which the last five are set
ten_bits : packed (λ k. nat_lt 6 k) 2 12 ≡ 224 ∷ 3 ∷ []
ten_bits = refl

-- ---- queries
length_read : queried Len 1 seen ≡ Ok 19
length_read = refl

pruned_read : queried PrunedChunks 1 seen ≡ Ok 2
pruned_read = refl

next_one_read : queried (NextOne 0) 1 seen ≡ Ok 17
next_one_read = refl

no_next_zero : queried (NextZero 17) 1 seen ≡ Err 14
no_next_zero = refl

-- the position itself is excluded
prev_one_read : queried (PrevOne 18) 1 seen ≡ Ok 17
prev_one_read = refl

prev_zero_read : queried (PrevZero 18) 1 seen ≡ Ok 16
prev_zero_read = refl

count_read : queried (CountOnes 0 18) 1 seen ≡ Ok 1
count_read = refl

select_read : queried (SelectOne 1) 1 seen ≡ Ok 18
select_read = refl

no_third_one : queried (SelectOne 2) 1 seen ≡ Err 14
no_third_one = refl

-- ---- machines and handles: commit 4 kept the three bits, and the current bitmap is empty
abbrev with_commit : Machine
with_commit = record {
  state = record { current = record { pruned = 0; bits = [] }; pending = None; history = (4, three_bits) ∷ []; costs = (4, 0) ∷ []; last = Some 4 };
  touched = [];
}

abbrev in_batch : Machine
in_batch = record {
  state = record { current = record { pruned = 0; bits = [] }; pending = Some three_bits; history = []; costs = []; last = None };
  touched = [];
}

shown_length : session_shown 1 with_commit (queried Len) ≡ Ok 0
shown_length = refl

past_length : session_commit 1 with_commit 4 (queried Len) ≡ Ok 19
past_length = refl

not_kept : session_commit 1 with_commit 3 (queried Len) ≡ Err 12
not_kept = refl

-- in a batch the pending bitmap is read
shown_in_a_batch : session_shown 1 in_batch (queried Len) ≡ Ok 19
shown_in_a_batch = refl

-- no read of a commit in a batch
commit_in_a_batch : session_commit 1 in_batch 3 (queried Len) ≡ Err 1
commit_in_a_batch = refl

empty_handle : read_shown None (queried Len) ≡ Err 15
empty_handle = refl

commit_of_an_empty_handle : read_commit None 4 (queried Len) ≡ Err 15
commit_of_an_empty_handle = refl

full_handle : read_shown (Some (Width1 first_machine None)) (queried Len) ≡ Ok 0
full_handle = refl
