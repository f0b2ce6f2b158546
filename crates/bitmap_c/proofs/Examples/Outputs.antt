-- The statuses and outputs of replies.
use Rattle.std.specs.Prelude.{◌≡◌, ℕ, [], ◌∷◌, Some, None, Ok, Err, true, false}
use Rattle.std.proofs.Common.{refl, arith}
use Rattle.bitmap_core.specs.Decoding.DecodeError.{InvalidLength}
use Rattle.bitmap_session.specs.Replies.ReplyValue.{Done, Bit, Number, Wide, Chunk, Maybe, Bytes, Refused}
use Rattle.bitmap_session.specs.Replies.Refusal.{Codec, NoMemory, NonMonotonicCommit, WrongMode}
use Rattle.bitmap_c.specs.Making.{between, length_or, read_status}
use Rattle.bitmap_c.specs.Reads.{Returns}
use Rattle.bitmap_c.specs.Reports.{bit_or, bytes_or, bytes_status, chunk_or, edit_reply_status, entries_or, number_or, previous_or, reply_status, size_or}
use Rattle.bitmap_c.specs.Widths.{is_width}

-- ---- statuses
done : reply_status Done ≡ 0
done = refl

no_number : reply_status (Maybe None) ≡ 14
no_number = refl

in_batch : reply_status (Refused WrongMode) ≡ 1
in_batch = refl

not_in_batch : edit_reply_status (Refused WrongMode) ≡ 27
not_in_batch = refl

edit_out_of_memory : edit_reply_status (Refused NoMemory) ≡ 13
edit_out_of_memory = refl

out_of_memory : reply_status (Refused NoMemory) ≡ 13
out_of_memory = refl

invalid_length : reply_status (Refused (Codec (Some (InvalidLength 70)))) ≡ 10
invalid_length = refl

-- an error of a read that is no decode error is out of memory
read_out_of_memory : read_status None ≡ 13
read_out_of_memory = refl

-- ---- outputs: the value of the reply, or what was there
set_bit : bit_or (Bit true) 7 ≡ 1
set_bit = refl

unset_bit : bit_or (Bit false) 7 ≡ 0
unset_bit = refl

no_bit : bit_or (Refused WrongMode) 7 ≡ 7
no_bit = refl

a_number : number_or (Number 5) 7 ≡ 5
a_number = refl

none_found : number_or (Maybe None) 7 ≡ 7
none_found = refl

-- 2^64 does not fit, and becomes 2^64 - 1
entries_at_most : entries_or (Wide 18446744073709551616) 7 ≡ 18446744073709551615
entries_at_most = refl

few_entries : entries_or (Wide 3) 7 ≡ 3
few_entries = refl

-- the last number, not the attempted one
previous : previous_or (Refused (NonMonotonicCommit 9 4)) 7 ≡ 9
previous = refl

a_chunk : chunk_or (Chunk (1 ∷ 2 ∷ [])) (7 ∷ 7 ∷ []) ≡ 1 ∷ 2 ∷ []
a_chunk = refl

-- bytes are written only to a buffer of their size, but their number is always reported
bytes_of_no_commit : bytes_status (Bytes None) 1 ≡ 12
bytes_of_no_commit = refl

bytes_that_fit : bytes_or (Bytes (Some (1 ∷ 2 ∷ []))) (7 ∷ 7 ∷ []) ≡ 1 ∷ 2 ∷ []
bytes_that_fit = refl

bytes_that_do_not_fit : bytes_or (Bytes (Some (1 ∷ 2 ∷ []))) (7 ∷ []) ≡ 7 ∷ []
bytes_that_do_not_fit = refl

wrong_size : bytes_status (Bytes (Some (1 ∷ 2 ∷ []))) 1 ≡ 18
wrong_size = refl

size_is_reported : size_or (Bytes (Some (1 ∷ 2 ∷ []))) 7 ≡ 2
size_is_reported = refl

-- the number of bits of the error
bits_of_an_error : length_or (Some (InvalidLength 70)) 7 ≡ 70
bits_of_an_error = refl

-- ---- reads
a_value : Returns {A = ℕ} 0 7 5 (Ok 5)
a_value = record { status_is = refl; output_is = refl }

no_value : Returns {A = ℕ} 14 7 7 (Err 14)
no_value = record { status_is = refl; output_is = refl }

no_value_but_an_output : Returns {A = ℕ} 14 7 0 (Err 14) → ⊥
no_value_but_an_output r = omega (arith, r.output_is)

-- ---- widths, and a range of lengths with both its ends
thirty_two : is_width 32 ≡ true
thirty_two = refl

sixteen : is_width 16 ≡ false
sixteen = refl

least_length : between 8 16 8 ≡ true
least_length = refl

most_length : between 8 16 16 ≡ true
most_length = refl

past_the_most : between 8 16 17 ≡ false
past_the_most = refl
