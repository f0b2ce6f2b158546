-- The refusals of each command, and which commands allocate, computed with chunks of one byte.
use Rattle.std.specs.Prelude.{◌≡◌, ℕ, true, false, List, [], ◌∷◌, Some, None}
use Rattle.std.specs.Global.{Vec}
use Rattle.std.proofs.Common.{refl, ap, ◌∙◌}
use Rattle.bitmap_core.specs.PrunedBits.{PrunedBits}
use Rattle.bitmap_core.specs.declared.bitmap.codec.range.RangeCfg.{RangeCfg}
use Rattle.bitmap_core.specs.Decoding.{admits, pruned_error}
use Rattle.bitmap_core.specs.Decoding.DecodeError.{EndOfBuffer, InvalidLength}
use Rattle.bitmap_session.specs.declared.command.Command.TheVariants.{Start, Begin, Push, PushByte, PushChunk, Pop, Set, Prune, Commit, Abort, Rewind, Len, PrunedChunks, Get, Chunk, Ones, Encode, At, OnesAt, EncodeAt, Decode, Commits, Exists, Latest, Earliest, DropBefore, Clear, Entries}
use Rattle.bitmap_session.specs.Replies.Refusal.{WrongMode, OutOfBounds, Pruned, TooLong, NoRetainedBit, ReservedCommitNumber, NonMonotonicCommit, PrunedChunksOverflow, Codec, NoSuchCommit}
use Rattle.bitmap_session.specs.Machine.{State, first_machine, is_dirty, shown, edited, when, first, wants_batch, wants_no_batch, wants_retained, wants_number, chunk_index, shown_len, wants_bit, wants_space, wants_fitting, wants_readable, refusal_of, allocates, wants_end, wants_kept, is_kept, checkout_refusal}

-- two bits after one pruned chunk: positions 8 and 9
abbrev pub two_bits : PrunedBits
two_bits = record { pruned = 1; bits = true ∷ false ∷ [] }

-- the same with one more bit
abbrev pub three_bits : PrunedBits
three_bits = record { pruned = 1; bits = true ∷ false ∷ true ∷ [] }

-- outside a batch, with one commit under 5
abbrev pub clean : State
clean = record { current = two_bits; pending = None; history = (5, two_bits) ∷ []; costs = (5, 1) ∷ []; last = Some 5 }

-- in a batch that has appended a bit
abbrev pub dirty : State
dirty = record { current = two_bits; pending = Some three_bits; history = (5, two_bits) ∷ []; costs = (5, 1) ∷ []; last = Some 5 }

-- the greatest length: seven set bits after pruned chunks, such that one more bit does not fit u64
abbrev pub greatest_length : PrunedBits
greatest_length = record { pruned = 2305843009213693951; bits = true ∷ true ∷ true ∷ true ∷ true ∷ true ∷ true ∷ [] }

-- in a batch whose pending bitmap has the greatest length
abbrev pub at_the_end : State
at_the_end = record { current = two_bits; pending = Some greatest_length; history = []; costs = []; last = None }

-- in a batch with no bits after one pruned chunk
abbrev pub emptied : State
emptied = record { current = two_bits; pending = Some (record { pruned = 1; bits = [] }); history = []; costs = []; last = None }

-- the encoding of one pruned chunk and the bits 1, 0, 1, followed by two bytes
abbrev pub input_of_three : List ℕ
input_of_three = 0 ∷ 0 ∷ 0 ∷ 0 ∷ 0 ∷ 0 ∷ 0 ∷ 1 ∷ 0 ∷ 0 ∷ 0 ∷ 0 ∷ 0 ∷ 0 ∷ 0 ∷ 3 ∷ 5 ∷ 77 ∷ 78 ∷ []

-- the range that admits 3 only, and the one that admits 4 only
abbrev pub three_alone : RangeCfg
three_alone = record { low = 3; high = 3 }

abbrev pub four_alone : RangeCfg
four_alone = record { low = 4; high = 4 }

-- ---- what the tests read

no_batch : is_dirty clean ≡ false
no_batch = refl

batch : is_dirty dirty ≡ true
batch = refl

-- outside a batch the current bitmap is visible, and in a batch the pending bitmap
shows_current : shown clean ≡ two_bits
shows_current = refl

shows_pending : shown dirty ≡ three_bits
shows_pending = refl

current_length : shown_len 1 clean ≡ 10
current_length = refl

pending_length : shown_len 1 dirty ≡ 11
pending_length = refl

-- another pending bitmap, and all else unchanged
pending_replaced : edited clean three_bits ≡ dirty
pending_replaced = refl

-- position 17 is in chunk 2 if chunks have one byte, and in chunk 0 if they have three
third_chunk : chunk_index 1 17 ≡ 2
third_chunk = refl

first_chunk : chunk_index 3 17 ≡ 0
first_chunk = refl

-- ---- lists of refusals

-- a test that is true, one that is false, and the first of three
holds : when true Pruned ≡ Some Pruned
holds = refl

does_not_hold : when false Pruned ≡ None
does_not_hold = refl

second_of_three : first (None ∷ Some TooLong ∷ Some Pruned ∷ []) ≡ Some TooLong
second_of_three = refl

none_of_two : first (None ∷ None ∷ []) ≡ None
none_of_two = refl

-- ---- the single refusals

-- a batch is needed: outside a batch, and in one
batch_missing : wants_batch clean ≡ Some WrongMode
batch_missing = refl

batch_there : wants_batch dirty ≡ None
batch_there = refl

-- no batch is needed: outside a batch, and in one
batch_in_the_way : wants_no_batch dirty ≡ Some WrongMode
batch_in_the_way = refl

no_batch_in_the_way : wants_no_batch clean ≡ None
no_batch_in_the_way = refl

-- a retained bit is needed
nothing_to_pop : wants_retained emptied ≡ Some NoRetainedBit
nothing_to_pop = refl

three_to_pop : wants_retained dirty ≡ None
three_to_pop = refl

-- 5 is the last number: 5 is not above it, and 6 is; if there is no last number, each number is allowed
same_number : wants_number dirty 5 ≡ None ∷ Some (NonMonotonicCommit 5 5) ∷ []
same_number = refl

smaller_number : wants_number dirty 3 ≡ None ∷ Some (NonMonotonicCommit 5 3) ∷ []
smaller_number = refl

greater_number : wants_number dirty 6 ≡ None ∷ None ∷ []
greater_number = refl

first_number : wants_number emptied 0 ≡ None ∷ None ∷ []
first_number = refl

-- 5 is the last number even if nothing is kept
abbrev pub cleared : State
cleared = record { current = two_bits; pending = Some three_bits; history = []; costs = []; last = Some 5 }

number_of_a_cleared_history : wants_number cleared 5 ≡ None ∷ Some (NonMonotonicCommit 5 5) ∷ []
number_of_a_cleared_history = refl

-- the greatest number of u64 is reserved, and the one below it is not
greatest_number : wants_number dirty 18446744073709551615 ≡ Some ReservedCommitNumber ∷ None ∷ []
greatest_number = refl

number_before_it : wants_number dirty 18446744073709551614 ≡ None ∷ None ∷ []
number_before_it = refl

-- the length is 10 outside the batch, and 11 in it
ten_is_out : wants_bit 1 clean 10 ≡ Some OutOfBounds ∷ None ∷ []
ten_is_out = refl

ten_is_in : wants_bit 1 dirty 10 ≡ None ∷ None ∷ []
ten_is_in = refl

eleven_is_out : wants_bit 1 dirty 11 ≡ Some OutOfBounds ∷ None ∷ []
eleven_is_out = refl

-- 7 is the last pruned position, and 8 is retained
seven_is_pruned : wants_bit 1 clean 7 ≡ None ∷ Some Pruned ∷ []
seven_is_pruned = refl

eight_is_retained : wants_bit 1 clean 8 ≡ None ∷ None ∷ []
eight_is_retained = refl

-- 8 times 2305843009213693951 plus 7 is the greatest length
no_space : wants_space 1 at_the_end 1 ≡ Some TooLong
no_space = refl

space_for_none : wants_space 1 at_the_end 0 ≡ None
space_for_none = refl

space : wants_space 1 dirty 1 ≡ None
space = refl

-- the bits of 2 to the power 61 chunks of one byte do not fit u64, and those of one chunk fewer do
pruned_past_64 : wants_fitting 1 2305843009213693952 ≡ Some PrunedChunksOverflow
pruned_past_64 = refl

pruned_within_64 : wants_fitting 1 2305843009213693951 ≡ None
pruned_within_64 = refl

-- no bytes decode to no bitmap, and three bits are not four
pub no_bytes : (range : RangeCfg) → wants_readable 1 (admits range) [] ≡ Some (Codec (Some EndOfBuffer))
unfolding pruned_error
no_bytes range = refl

pub not_admitted : wants_readable 1 (admits four_alone) input_of_three ≡ Some (Codec (Some (InvalidLength 3)))
unfolding pruned_error
not_admitted = refl

pub admitted : wants_readable 1 (admits three_alone) input_of_three ≡ None
unfolding pruned_error
admitted = refl

-- ---- start

start_accepted : refusal_of 1 clean (Start 2305843009213693951) ≡ None
start_accepted = refl

start_too_far : refusal_of 1 clean (Start 2305843009213693952) ≡ Some PrunedChunksOverflow
start_too_far = refl

-- in a batch the mode is reported before the count
start_in_a_batch : refusal_of 1 dirty (Start 2305843009213693952) ≡ Some WrongMode
start_in_a_batch = refl

start_takes_none : allocates 1 clean (Start 3) ≡ false
start_takes_none = refl

-- ---- begin

begin_accepted : refusal_of 1 clean Begin ≡ None
begin_accepted = refl

begin_in_a_batch : refusal_of 1 dirty Begin ≡ Some WrongMode
begin_in_a_batch = refl

begin_takes_none : allocates 1 clean Begin ≡ false
begin_takes_none = refl

-- ---- push

push_accepted : refusal_of 1 dirty (Push true) ≡ None
push_accepted = refl

push_outside : refusal_of 1 clean (Push true) ≡ Some WrongMode
push_outside = refl

push_too_long : refusal_of 1 at_the_end (Push false) ≡ Some TooLong
push_too_long = refl

push_allocates : allocates 1 dirty (Push true) ≡ true
push_allocates = refl

-- ---- pop

pop_accepted : refusal_of 1 dirty Pop ≡ None
pop_accepted = refl

pop_outside : refusal_of 1 first_machine.state Pop ≡ Some WrongMode
pop_outside = refl

pop_of_none : refusal_of 1 emptied Pop ≡ Some NoRetainedBit
pop_of_none = refl

pop_takes_none : allocates 1 dirty Pop ≡ false
pop_takes_none = refl

-- ---- set

set_accepted : refusal_of 1 dirty (Set 10 false) ≡ None
set_accepted = refl

-- outside a batch the mode is reported before the position
set_outside : refusal_of 1 clean (Set 99 true) ≡ Some WrongMode
set_outside = refl

set_out_of_bounds : refusal_of 1 dirty (Set 11 true) ≡ Some OutOfBounds
set_out_of_bounds = refl

set_pruned : refusal_of 1 dirty (Set 0 true) ≡ Some Pruned
set_pruned = refl

set_allocates : allocates 1 dirty (Set 8 true) ≡ true
set_allocates = refl

-- ---- commit

commit_accepted : refusal_of 1 dirty (Commit 6) ≡ None
commit_accepted = refl

-- outside a batch the mode is reported before the number
commit_outside : refusal_of 1 clean (Commit 5) ≡ Some WrongMode
commit_outside = refl

commit_reserved : refusal_of 1 dirty (Commit 18446744073709551615) ≡ Some ReservedCommitNumber
commit_reserved = refl

commit_again : refusal_of 1 dirty (Commit 5) ≡ Some (NonMonotonicCommit 5 5)
commit_again = refl

commit_allocates : allocates 1 dirty (Commit 6) ≡ true
commit_allocates = refl

-- ---- abort

abort_accepted : refusal_of 1 dirty Abort ≡ None
abort_accepted = refl

abort_outside : refusal_of 1 clean Abort ≡ Some WrongMode
abort_outside = refl

abort_takes_none : allocates 1 dirty Abort ≡ false
abort_takes_none = refl

-- ---- len and pruned-chunks are accepted in a batch and outside

len_accepted : refusal_of 1 clean Len ≡ None
len_accepted = refl

len_in_a_batch : refusal_of 1 dirty Len ≡ None
len_in_a_batch = refl

len_takes_none : allocates 1 clean Len ≡ false
len_takes_none = refl

pruned_chunks_accepted : refusal_of 1 clean PrunedChunks ≡ None
pruned_chunks_accepted = refl

pruned_chunks_in_a_batch : refusal_of 1 dirty PrunedChunks ≡ None
pruned_chunks_in_a_batch = refl

pruned_chunks_take_none : allocates 1 clean PrunedChunks ≡ false
pruned_chunks_take_none = refl

-- ---- get

get_accepted : refusal_of 1 clean (Get 8) ≡ None
get_accepted = refl

get_in_a_batch : refusal_of 1 dirty (Get 10) ≡ None
get_in_a_batch = refl

get_out_of_bounds : refusal_of 1 clean (Get 10) ≡ Some OutOfBounds
get_out_of_bounds = refl

-- at the length of a bitmap whose bits are all pruned
get_out_of_none : refusal_of 1 emptied (Get 8) ≡ Some OutOfBounds
get_out_of_none = refl

get_pruned : refusal_of 1 clean (Get 7) ≡ Some Pruned
get_pruned = refl

get_takes_none : allocates 1 clean (Get 8) ≡ false
get_takes_none = refl

-- ---- ones

-- a range is never out of bounds
ones_accepted : refusal_of 1 clean (Ones 99 3) ≡ None
ones_accepted = refl

ones_in_a_batch : refusal_of 1 dirty (Ones 0 9) ≡ Some WrongMode
ones_in_a_batch = refl

ones_allocates : allocates 1 clean (Ones 0 9) ≡ true
ones_allocates = refl

-- ---- encode

encode_accepted : refusal_of 1 clean Encode ≡ None
encode_accepted = refl

encode_in_a_batch : refusal_of 1 dirty Encode ≡ Some WrongMode
encode_in_a_batch = refl

encode_allocates : allocates 1 clean Encode ≡ true
encode_allocates = refl

-- ---- at

-- a read at a number that is not kept is not refused
at_accepted : refusal_of 1 clean (At 4) ≡ None
at_accepted = refl

at_in_a_batch : refusal_of 1 dirty (At 5) ≡ Some WrongMode
at_in_a_batch = refl

-- reading a kept commit allocates, and reading one that is not kept does not
kept_allocates : allocates 1 clean (At 5) ≡ true
kept_allocates = refl

not_kept_takes_none : allocates 1 clean (At 6) ≡ false
not_kept_takes_none = refl

-- ---- decode is accepted in a batch and outside

-- the refusal of an input depends on its bytes only
pub of_bytes : (range : RangeCfg) (input : Vec ℕ) (bytes : List ℕ)
    → input.items ≡ bytes
    → wants_readable 1 (admits range) input.items ≡ wants_readable 1 (admits range) bytes
of_bytes range input bytes e = ap (wants_readable 1 (admits range)) e

decode_accepted : (input : Vec ℕ) → input.items ≡ input_of_three → refusal_of 1 dirty (Decode input three_alone) ≡ None
decode_accepted input e = rw (of_bytes three_alone input input_of_three e ∙ admitted) refl

decode_not_admitted : (input : Vec ℕ)
    → input.items ≡ input_of_three
    → refusal_of 1 clean (Decode input four_alone) ≡ Some (Codec (Some (InvalidLength 3)))
decode_not_admitted input e = rw (of_bytes four_alone input input_of_three e ∙ not_admitted) refl

decode_nothing : (input : Vec ℕ) (range : RangeCfg)
    → input.items ≡ []
    → refusal_of 1 dirty (Decode input range) ≡ Some (Codec (Some EndOfBuffer))
decode_nothing input range e = rw (of_bytes range input [] e ∙ no_bytes range) refl

decode_allocates : (input : Vec ℕ) (range : RangeCfg) → allocates 1 clean (Decode input range) ≡ true
decode_allocates input range = refl

-- ---- the commands that append bytes

-- at the greatest length no bit can be appended, and eight bits below it a byte can
push_byte_too_long : refusal_of 1 at_the_end (PushByte 255) ≡ Some TooLong
push_byte_too_long = refl

push_byte_accepted : refusal_of 1 dirty (PushByte 255) ≡ None
push_byte_accepted = refl

push_byte_outside : refusal_of 1 clean (PushByte 255) ≡ Some WrongMode
push_byte_outside = refl

push_chunk_too_long : refusal_of 1 at_the_end (PushChunk (255 ∷ [])) ≡ Some TooLong
push_chunk_too_long = refl

push_chunk_allocates : allocates 1 dirty (PushChunk (255 ∷ [])) ≡ true
push_chunk_allocates = refl

-- ---- prune

-- the length itself is not above the length, and the next position is
prune_to_the_end : wants_end 1 dirty 11 ≡ None
prune_to_the_end = refl

prune_past_the_end : refusal_of 1 dirty (Prune 12) ≡ Some OutOfBounds
prune_past_the_end = refl

-- one chunk is pruned already: a prune allocates if it drops a second one
prune_of_nothing : allocates 1 dirty (Prune 11) ≡ false
prune_of_nothing = refl

prune_of_a_chunk : allocates 1 (edited clean (record { pruned = 0; bits = true ∷ true ∷ true ∷ true ∷ true ∷ true ∷ true ∷ true ∷ [] })) (Prune 8) ≡ true
prune_of_a_chunk = refl

-- ---- rewind

kept_number : is_kept clean 5 ≡ true
kept_number = refl

no_such_commit : wants_kept clean 4 ≡ Some NoSuchCommit
no_such_commit = refl

rewind_accepted : refusal_of 1 clean (Rewind 5) ≡ None
rewind_accepted = refl

rewind_of_none : refusal_of 1 clean (Rewind 18446744073709551615) ≡ Some NoSuchCommit
rewind_of_none = refl

-- in a batch the mode is reported before the number
rewind_in_a_batch : refusal_of 1 dirty (Rewind 4) ≡ Some WrongMode
rewind_in_a_batch = refl

rewind_allocates : allocates 1 clean (Rewind 5) ≡ true
rewind_allocates = refl

rewind_of_none_takes_none : allocates 1 clean (Rewind 4) ≡ false
rewind_of_none_takes_none = refl

-- ---- reads of kept bitmaps and of kept numbers

ones_at_of_none_takes_none : allocates 1 clean (OnesAt 4 0 9) ≡ false
ones_at_of_none_takes_none = refl

encode_at_allocates : allocates 1 clean (EncodeAt 5) ≡ true
encode_at_allocates = refl

chunk_pruned : refusal_of 1 clean (Chunk 7) ≡ Some Pruned
chunk_pruned = refl

commits_in_a_batch : refusal_of 1 dirty Commits ≡ Some WrongMode
commits_in_a_batch = refl

commits_allocates : allocates 1 clean Commits ≡ true
commits_allocates = refl

-- these do not allocate
none_taken : (allocates 1 clean (Exists 5) ≡ false)
    × (allocates 1 clean Latest ≡ false)
    × (allocates 1 clean Earliest ≡ false)
    × (allocates 1 clean (DropBefore 5) ≡ false)
    × (allocates 1 clean Clear ≡ false)
    × (allocates 1 clean Entries ≡ false)
none_taken = (refl, refl, refl, refl, refl, refl)

-- ---- sessions of a kept bitmap

kept_under_5 : checkout_refusal clean 5 ≡ None
kept_under_5 = refl

not_kept_under_6 : checkout_refusal clean 6 ≡ Some NoSuchCommit
not_kept_under_6 = refl

-- the batch is the first reason
kept_in_a_batch : checkout_refusal dirty 6 ≡ Some WrongMode
kept_in_a_batch = refl
