-- Inputs, what they encode, and their decode errors. A number is encoded in eight bytes.
use Rattle.std.specs.Prelude.{◌≡◌, ℕ, Bool, true, false, ◌==◌, List, [], ◌∷◌, ◌++◌, length, replicate, Some, None, codes}
use Rattle.std.proofs.Common.{refl, arith, ap}
use denote.Bor.{Bor}
use Rattle.bitmap_core.specs.declared.bitmap.codec.error.CodecError.TheVariants as errors
use Rattle.bitmap_core.specs.Encoding.{encoding, pruned_encoding}
use Rattle.bitmap_core.specs.Decoding.{decode_error, admits, number, chunk_bytes, trailing, is_past_64, is_short, is_out_of_range, has_too_many_chunks, lacks_chunks, has_trailing_bit, has_too_many_pruned_bits, has_too_many_pruned_chunks, has_too_many_bits, first_error, bits_error, pruned_error, bits_in, pruned_in, EncodesBits, EncodesPruned}
use Rattle.bitmap_core.specs.Decoding.DecodeError.{EndOfBuffer, InvalidLength, Invalid}

-- a number up to 255, in eight bytes
abbrev pub eight : ℕ → List ℕ
eight k = 0 ∷ 0 ∷ 0 ∷ 0 ∷ 0 ∷ 0 ∷ 0 ∷ k ∷ []

-- any length
abbrev pub any : ℕ → Bool
any k = true

-- ---- errors and ranges

-- the decode errors of the code's errors; out of memory is not one
end_of_buffer : decode_error errors.EndOfBuffer ≡ Some EndOfBuffer
end_of_buffer = refl

invalid_length : decode_error (errors.InvalidLength 7) ≡ Some (InvalidLength 7)
invalid_length = refl

invalid_text : (what why : Bor (List ℕ)) → what.now ≡ codes "BitMap" → why.now ≡ codes "bad"
    → decode_error (errors.Invalid what why) ≡ Some (Invalid (codes "BitMap") (codes "bad"))
invalid_text what why a b = rw (a, b) refl

want_of_memory : decode_error errors.OutOfMemory ≡ None
want_of_memory = refl

-- a range from 2 to 4 admits 2 and 4, but not 1 and not 5
low_end : admits (record { low = 2; high = 4 }) 2 ≡ true
low_end = refl

high_end : admits (record { low = 2; high = 4 }) 4 ≡ true
high_end = refl

below_the_range : admits (record { low = 2; high = 4 }) 1 ≡ false
below_the_range = refl

above_the_range : admits (record { low = 2; high = 4 }) 5 ≡ false
above_the_range = refl

-- a range from 4 to 2 admits nothing, not even 3
range_turned_round : admits (record { low = 4; high = 2 }) 3 ≡ false
range_turned_round = refl

-- ---- the number, the chunks and the places past the length

-- 256 plus 2, and a ninth byte that is not part of the number
number_of_258 : number (0 ∷ 0 ∷ 0 ∷ 0 ∷ 0 ∷ 0 ∷ 1 ∷ 2 ∷ 99 ∷ []) ≡ 258
number_of_258 = refl

-- eight full bytes are the greatest number of u64
greatest_number : number (replicate 8 255) ≡ 18446744073709551615
greatest_number = refl

-- 33 bits need two chunks of four bytes, and one of nine
eight_chunk_bytes : chunk_bytes 4 (eight 33) ≡ 8
eight_chunk_bytes = refl

nine_chunk_bytes : chunk_bytes 9 (eight 33) ≡ 9
nine_chunk_bytes = refl

-- ten bits in chunks of one byte leave six places, and eight bits leave none
six_places : trailing 1 (eight 10) ≡ 10 ∷ 11 ∷ 12 ∷ 13 ∷ 14 ∷ 15 ∷ []
six_places = refl

no_places : trailing 1 (eight 8) ≡ []
no_places = refl

-- ---- the tests

-- the greatest number of 64 bits, and the next one
within_64 : is_past_64 18446744073709551615 ≡ false
within_64 = refl

past_64 : is_past_64 18446744073709551616 ≡ true
past_64 = refl

-- seven bytes are too few, and eight are not
seven_bytes : is_short (replicate 7 0) ≡ true
seven_bytes = refl

eight_bytes : is_short (replicate 8 0) ≡ false
eight_bytes = refl

-- a length of 3 if only 2 is admitted, and a length of 2
three_is_out_of_range : is_out_of_range (λ k. k == 2) (eight 3) ≡ true
three_is_out_of_range = refl

two_is_in_range : is_out_of_range (λ k. k == 2) (eight 2) ≡ false
two_is_in_range = refl

-- no length of 64 bits has too many chunks; the test would hold with a first number of 2048, which is not a byte
chunks_of_the_greatest : has_too_many_chunks 1 (replicate 8 255) ≡ false
chunks_of_the_greatest = refl

chunks_past_64 : has_too_many_chunks 1 (2048 ∷ replicate 7 0) ≡ true
chunks_past_64 = refl

-- one bit in a chunk of four bytes: three bytes are too few
three_chunk_bytes : lacks_chunks 4 (eight 1 ++ 1 ∷ 0 ∷ 0 ∷ []) ≡ true
three_chunk_bytes = refl

four_chunk_bytes : lacks_chunks 4 (eight 1 ++ 1 ∷ 0 ∷ 0 ∷ 0 ∷ []) ≡ false
four_chunk_bytes = refl

-- one bit in a chunk of four bytes: the second bit is past the length, and so is the last
second_bit_is_set : has_trailing_bit 4 (eight 1 ++ 2 ∷ 0 ∷ 0 ∷ 0 ∷ []) ≡ true
second_bit_is_set = refl

last_bit_is_set : has_trailing_bit 4 (eight 1 ++ 1 ∷ 0 ∷ 0 ∷ 128 ∷ []) ≡ true
last_bit_is_set = refl

first_bit_is_set : has_trailing_bit 4 (eight 1 ++ 1 ∷ 0 ∷ 0 ∷ 0 ∷ []) ≡ false
first_bit_is_set = refl

-- bytes after the chunks are not part of them
byte_beyond : has_trailing_bit 1 (eight 8 ++ 255 ∷ 255 ∷ []) ≡ false
byte_beyond = refl

-- 2 to the power 59 chunks of 32 bits are 2 to the power 64 bits; one fewer is not too many
too_many_pruned : has_too_many_pruned_bits 4 (8 ∷ replicate 7 0) ≡ true
too_many_pruned = refl

most_pruned : has_too_many_pruned_bits 4 (7 ∷ replicate 7 255) ≡ false
most_pruned = refl

-- no count of eight bytes is too large; the test would hold with a first number of 256, which is not a byte
greatest_count : has_too_many_pruned_chunks (replicate 8 255) ≡ false
greatest_count = refl

count_past_64 : has_too_many_pruned_chunks (256 ∷ replicate 7 0) ≡ true
count_past_64 = refl

-- after 2 to the power 61 minus 1 chunks of one byte, seven bits fit 64 bits, and eight do not
seven_bits_more : has_too_many_bits 1 (31 ∷ replicate 7 255 ++ eight 7) ≡ false
seven_bits_more = refl

eight_bits_more : has_too_many_bits 1 (31 ∷ replicate 7 255 ++ eight 8) ≡ true
eight_bits_more = refl

-- ---- the first error

-- the second and the third of three tests hold
second_of_three : first_error ((false, EndOfBuffer) ∷ (true, InvalidLength 1) ∷ (true, InvalidLength 2) ∷ []) ≡ Some (InvalidLength 1)
second_of_three = refl

none_of_two : first_error ((false, EndOfBuffer) ∷ (false, InvalidLength 1) ∷ []) ≡ None
none_of_two = refl

-- a list of bits without an error, also with a byte after it
no_error : bits_error 1 any (eight 3 ++ 5 ∷ 77 ∷ []) ≡ None
unfolding bits_error
no_error = refl

-- no bytes at all
no_text : bits_error 4 any [] ≡ Some EndOfBuffer
unfolding bits_error
no_text = refl

-- a length out of range is reported before missing bytes
length_first : bits_error 4 (λ k. k == 1) (eight 2) ≡ Some (InvalidLength 2)
unfolding bits_error
length_first = refl

-- missing bytes are reported before a bit past the length
missing_first : bits_error 4 any (eight 1 ++ 255 ∷ 255 ∷ 255 ∷ []) ≡ Some EndOfBuffer
unfolding bits_error
missing_first = refl

-- the greatest length, and no chunks
nothing_of_the_greatest : bits_error 1 any (replicate 8 255) ≡ Some EndOfBuffer
unfolding bits_error
nothing_of_the_greatest = refl

-- a bit past the length
bit_past : bits_error 4 any (eight 1 ++ 2 ∷ 0 ∷ 0 ∷ 0 ∷ []) ≡ Some (Invalid (codes "BitMap") (codes "Invalid trailing bits in encoded data"))
unfolding bits_error
bit_past = refl

-- a bitmap with a pruned prefix: three pruned chunks and two bits
no_error_of_pruned : pruned_error 2 any (eight 3 ++ eight 2 ++ 2 ∷ 0 ∷ []) ≡ None
unfolding pruned_error
no_error_of_pruned = refl

-- seven bytes, and eight bytes with nothing after them
short_count : pruned_error 2 any (replicate 7 0) ≡ Some EndOfBuffer
unfolding pruned_error
short_count = refl

count_alone : pruned_error 2 any (eight 3) ≡ Some EndOfBuffer
unfolding pruned_error
count_alone = refl

-- too many pruned bits are reported before missing bytes
pruned_first : pruned_error 4 any (8 ∷ replicate 7 0) ≡ Some (Invalid (codes "Prunable") (codes "pruned_chunks would overflow when computing pruned_bits"))
unfolding pruned_error
pruned_first = refl

-- a count that does not fit 64 bits, of chunks without bytes: only such chunks pass the earlier test
count_first : pruned_error 0 any (256 ∷ replicate 7 0) ≡ Some (Invalid (codes "Prunable") (codes "pruned_chunks doesn't fit in usize"))
unfolding pruned_error
count_first = refl

-- the range applies to the two retained bits, not to the whole length of 50
retained_in_range : pruned_error 2 (λ k. k == 2) (eight 3 ++ eight 2 ++ 2 ∷ 0 ∷ []) ≡ None
unfolding pruned_error
retained_in_range = refl

whole_length_out_of_range : pruned_error 2 (λ k. k == 50) (eight 3 ++ eight 2 ++ 2 ∷ 0 ∷ []) ≡ Some (InvalidLength 2)
unfolding pruned_error
whole_length_out_of_range = refl

-- a bit past the length of the bits
bit_past_of_pruned : pruned_error 4 any (eight 0 ++ eight 1 ++ 2 ∷ 0 ∷ 0 ∷ 0 ∷ []) ≡ Some (Invalid (codes "BitMap") (codes "Invalid trailing bits in encoded data"))
unfolding pruned_error
bit_past_of_pruned = refl

-- it is reported before the whole length, which does not fit 64 bits
bit_past_first : pruned_error 1 any (31 ∷ replicate 7 255 ++ eight 9 ++ 0 ∷ 2 ∷ []) ≡ Some (Invalid (codes "BitMap") (codes "Invalid trailing bits in encoded data"))
unfolding pruned_error
bit_past_first = refl

-- 2 to the power 64 minus 8 pruned bits, and eight more bits
whole_length_past_64 : pruned_error 1 any (31 ∷ replicate 7 255 ++ eight 8 ++ 0 ∷ []) ≡ Some (Invalid (codes "Prunable") (codes "total bitmap length (pruned + unpruned) would overflow u64"))
unfolding pruned_error
whole_length_past_64 = refl

-- ---- what an input encodes

-- three bits, and a byte after them
bits_of_a_text : bits_in (eight 3 ++ 5 ∷ 77 ∷ []) ≡ true ∷ false ∷ true ∷ []
unfolding bits_in
bits_of_a_text = refl

-- three pruned chunks and two bits
pruned_of_a_text : pruned_in (eight 3 ++ eight 2 ++ 2 ∷ 0 ∷ []) ≡ record { pruned = 3; bits = false ∷ true ∷ [] }
unfolding pruned_in bits_in
pruned_of_a_text = refl

-- the input without its last byte is the encoding of three bits
encodes_bits : EncodesBits 1 (λ k. k == 3) (eight 3 ++ 5 ∷ 77 ∷ [])
unfolding encoding
encodes_bits = record {
  bits = true ∷ false ∷ true ∷ [];
  rest = 77 ∷ [];
  encoded = refl;
  len_fits = omega arith;
  chunks_fit = omega arith;
  admitted = refl;
}

-- seven bytes encode nothing
encodes_no_bits : EncodesBits 1 any (replicate 7 0) → ⊥
unfolding encoding
encodes_no_bits s = omega (arith, ap length s.encoded)

-- a prefix of the input is the encoding of a bitmap with a pruned prefix and two retained bits
encodes_pruned : EncodesPruned 2 (λ k. k == 2) (eight 3 ++ eight 2 ++ 2 ∷ 0 ∷ 9 ∷ [])
unfolding pruned_encoding encoding
encodes_pruned = record {
  bitmap = record { pruned = 3; bits = false ∷ true ∷ [] };
  rest = 9 ∷ [];
  encoded = refl;
  len_fits = omega arith;
  pruned_fits = omega arith;
  chunks_fit = omega arith;
  admitted = refl;
}

-- fifteen bytes encode no bitmap with a pruned prefix
encodes_no_pruned : EncodesPruned 2 any (replicate 15 0) → ⊥
unfolding pruned_encoding encoding
encodes_no_pruned s = omega (arith, ap length s.encoded)
