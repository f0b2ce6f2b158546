-- Calls that edit many bits at once, computed with chunks of one byte.
use Rattle.std.specs.Prelude.{◌≡◌, true, false, [], ◌∷◌, Some, None}
use Rattle.std.proofs.Common.{refl}
use Rattle.historical_bitmap.specs.Edits.Edit.{Push, Pop, Set, Prune}
use Rattle.bitmap_session.specs.declared.command.Command.TheVariants as command
use Rattle.bitmap_session.specs.Edits.{appends_bits, command_of, lengthens, replies_to, set_steps, sets_chunk, sets_range, shortens, stopped_steps, wants_chunk, wants_length, wants_range}
use Rattle.bitmap_session.specs.Machine.{first}
use Rattle.bitmap_session.specs.Replies.ReplyValue.{Bit, Done, Refused}
use Rattle.bitmap_session.specs.Replies.Refusal.{OutOfBounds, Pruned, TooLong}
use Rattle.bitmap_session.proofs.Examples.Refusals.{at_the_end, dirty, three_bits}

-- the pending bitmap has the positions 8 to 10, all in chunk 1
chunk_of_pruned_bits : first (wants_chunk 1 dirty 0) ≡ Some Pruned
chunk_of_pruned_bits = refl

chunk_of_retained_bits : first (wants_chunk 1 dirty 1) ≡ None
chunk_of_retained_bits = refl

chunk_past_the_length : first (wants_chunk 1 dirty 2) ≡ Some OutOfBounds
chunk_past_the_length = refl

-- the byte 6 has the bits 0, 1, 1, and five more past the length
edits_of_a_chunk : (sets_chunk 1 1 (6 ∷ []) dirty).edits ≡ Set 8 false ∷ Set 9 true ∷ Set 10 true ∷ []
edits_of_a_chunk = refl

range_of_all : first (wants_range 1 dirty 8 11) ≡ None
range_of_all = refl

range_from_a_pruned_bit : first (wants_range 1 dirty 7 11) ≡ Some Pruned
range_from_a_pruned_bit = refl

range_past_the_length : first (wants_range 1 dirty 8 12) ≡ Some OutOfBounds
range_past_the_length = refl

-- of two refusals, the length is first
range_of_both : first (wants_range 1 dirty 7 12) ≡ Some OutOfBounds
range_of_both = refl

-- an empty range is not refused, and does not allocate
empty_range : first (wants_range 1 dirty 20 20) ≡ None
empty_range = refl

reversed_range : first (wants_range 1 dirty 12 3) ≡ None
reversed_range = refl

empty_range_allocates_nothing : (sets_range 1 20 20 true dirty).allocates ≡ false
empty_range_allocates_nothing = refl

range_allocates : (sets_range 1 9 10 true dirty).allocates ≡ true
range_allocates = refl

edits_of_a_range : (sets_range 1 9 11 true dirty).edits ≡ Set 9 true ∷ Set 10 true ∷ []
edits_of_a_range = refl

length_of_all : first (wants_length 1 dirty 11) ≡ None
length_of_all = refl

length_of_pruned_bits : first (wants_length 1 dirty 8) ≡ None
length_of_pruned_bits = refl

length_below_pruned_bits : first (wants_length 1 dirty 7) ≡ Some Pruned
length_below_pruned_bits = refl

length_past_the_end : first (wants_length 1 dirty 12) ≡ Some OutOfBounds
length_past_the_end = refl

edits_of_a_shorter_length : (shortens 1 9 dirty).edits ≡ Pop ∷ Pop ∷ []
edits_of_a_shorter_length = refl

edits_of_a_longer_length : (lengthens 1 13 dirty).edits ≡ Push false ∷ Push false ∷ []
edits_of_a_longer_length = refl

-- a length that is reached appends nothing, and does not allocate
edits_of_a_length_that_is_reached : (lengthens 1 11 dirty).edits ≡ []
edits_of_a_length_that_is_reached = refl

reached_length_allocates_nothing : (lengthens 1 11 dirty).allocates ≡ false
reached_length_allocates_nothing = refl

-- at the greatest length an empty list of bits can be appended, and one bit cannot
no_bits_at_the_end : first (appends_bits 1 [] at_the_end).refusals ≡ None
no_bits_at_the_end = refl

a_bit_at_the_end : first (appends_bits 1 (true ∷ []) at_the_end).refusals ≡ Some TooLong
a_bit_at_the_end = refl

-- each edit has its command, and a pop replies the bit that was the last one
commands_of_edits : command_of 1 (Prune 3) ≡ command.Prune 3
commands_of_edits = refl

replies_of_pops : replies_to 1 three_bits (Pop ∷ Pop ∷ Push true ∷ []) ≡ Bit true ∷ Bit false ∷ Done ∷ []
replies_of_pops = refl

-- of three positions, the second is refused
steps_up_to_a_refusal : stopped_steps 1 (8 ∷ 99 ∷ 9 ∷ []) true 1 OutOfBounds ≡ (command.Set 8 true, Done) ∷ (command.Set 99 true, Refused OutOfBounds) ∷ []
steps_up_to_a_refusal = refl

steps_of_all : set_steps 1 (8 ∷ 9 ∷ []) false ≡ (command.Set 8 false, Done) ∷ (command.Set 9 false, Done) ∷ []
steps_of_all = refl
