-- Bitmaps with a pruned prefix. Chunks have one byte unless another width is named.
use Rattle.std.specs.Prelude.{◌≡◌, Bool, true, false, List, [], ◌∷◌, ◌==◌}
use Rattle.std.proofs.Common.{refl, arith}
use Rattle.bitmap_core.specs.PrunedBits.{PrunedBits, plain_bits, pruned_bits, bit_len, bit_at, IsRetained, IsRetainedChunk, from_bits, chunk, pushed, popped, last_bit, set_at, appended, extended, truncated, pruned_to, unpruned, with_chunk}

-- bits after two pruned chunks
abbrev pub beyond_two : List Bool → PrunedBits
beyond_two v = record { pruned = 2; bits = v }

-- two pruned chunks, and three bits 0, 1, 1 at the positions 16, 17 and 18
abbrev pub three_bits : PrunedBits
three_bits = beyond_two (false ∷ true ∷ true ∷ [])

-- a list of bits with nothing pruned
nothing_pruned : plain_bits (true ∷ []) ≡ record { pruned = 0; bits = true ∷ [] }
nothing_pruned = refl

-- two chunks of one byte are 16 bits, and two of three bytes are 48
sixteen_pruned : pruned_bits 1 three_bits ≡ 16
sixteen_pruned = refl

forty_eight_pruned : pruned_bits 3 three_bits ≡ 48
forty_eight_pruned = refl

-- the length includes them: 16 plus 3, and 48 plus 3
nineteen_bits : bit_len 1 three_bits ≡ 19
nineteen_bits = refl

fifty_one_bits : bit_len 3 three_bits ≡ 51
fifty_one_bits = refl

-- the bits at 16, at 18, and at 19, which is past the length
first_retained_bit : bit_at 1 three_bits 16 ≡ false
first_retained_bit = refl

last_retained_bit : bit_at 1 three_bits 18 ≡ true
last_retained_bit = refl

bit_past_the_length : bit_at 1 three_bits 19 ≡ false
bit_past_the_length = refl

-- with chunks of three bytes the second bit is at 49
second_bit_beyond_wide_chunks : bit_at 3 three_bits 49 ≡ true
second_bit_beyond_wide_chunks = refl

-- 16 and 18 are retained, 15 is pruned, 19 is past the length
first_is_retained : IsRetained 1 three_bits 16
first_is_retained = (omega arith, omega arith)

last_is_retained : IsRetained 1 three_bits 18
last_is_retained = (omega arith, omega arith)

pruned_is_not_retained : IsRetained 1 three_bits 15 → ⊥
pruned_is_not_retained r = omega (arith, r.0)

length_is_not_retained : IsRetained 1 three_bits 19 → ⊥
length_is_not_retained r = omega (arith, r.1)

-- chunk 2 is retained in part, chunk 1 is pruned, chunk 3 has not begun
third_chunk_is_there : IsRetainedChunk 1 three_bits 2
third_chunk_is_there = (omega arith, omega arith)

pruned_chunk_is_not_there : IsRetainedChunk 1 three_bits 1 → ⊥
pruned_chunk_is_not_there h = omega (arith, h.0)

next_chunk_is_not_there : IsRetainedChunk 1 three_bits 3 → ⊥
next_chunk_is_not_there h = omega (arith, h.1)

-- a full last chunk ends before the next one begins
full_chunk_is_the_last : IsRetainedChunk 1 (beyond_two (true ∷ true ∷ true ∷ true ∷ true ∷ true ∷ true ∷ true ∷ [])) 3 → ⊥
full_chunk_is_the_last h = omega (arith, h.1)

-- a bitmap with only 17 set, from 16 up to 19
bits_from_a_function : from_bits 1 2 19 (λ k. k == 17) ≡ beyond_two (false ∷ true ∷ false ∷ [])
bits_from_a_function = refl

-- chunk 2 is 2 plus 4, and zero past the length; with three bytes it has two more zero bytes
third_chunk : chunk 1 three_bits 2 ≡ 6 ∷ []
third_chunk = refl

third_wide_chunk : chunk 3 three_bits 2 ≡ 6 ∷ 0 ∷ 0 ∷ []
third_wide_chunk = refl

-- chunk 3 of nine bits after two chunks has the ninth
fourth_chunk : chunk 1 (beyond_two (false ∷ false ∷ false ∷ false ∷ false ∷ false ∷ false ∷ false ∷ true ∷ [])) 3 ≡ 1 ∷ []
fourth_chunk = refl

-- a bit is appended
bit_pushed : pushed three_bits false ≡ beyond_two (false ∷ true ∷ true ∷ false ∷ [])
bit_pushed = refl

-- the last bit is dropped, and returned
bit_popped : popped three_bits ≡ beyond_two (false ∷ true ∷ [])
bit_popped = refl

bit_that_goes : last_bit (beyond_two (true ∷ true ∷ false ∷ [])) ≡ false
bit_that_goes = refl

-- position 16 is set
bit_set : set_at 1 three_bits 16 true ≡ beyond_two (true ∷ true ∷ true ∷ [])
bit_set = refl

-- position 50 is cleared, after two pruned chunks of three bytes
wide_bit_cleared : set_at 3 three_bits 50 false ≡ beyond_two (false ∷ true ∷ false ∷ [])
wide_bit_cleared = refl

-- bits are appended in order
bits_appended : appended three_bits (true ∷ false ∷ []) ≡ beyond_two (false ∷ true ∷ true ∷ true ∷ false ∷ [])
bits_appended = refl

-- zeros are appended up to length 21; a smaller length appends none
zeros_appended : extended 1 three_bits 21 ≡ beyond_two (false ∷ true ∷ true ∷ false ∷ false ∷ [])
zeros_appended = refl

no_zeros_appended : extended 1 three_bits 5 ≡ three_bits
no_zeros_appended = refl

-- truncation to 18; truncation to the pruned length leaves no bit
two_bits_kept : truncated 1 three_bits 18 ≡ beyond_two (false ∷ true ∷ [])
two_bits_kept = refl

no_bits_kept : truncated 1 three_bits 16 ≡ beyond_two []
no_bits_kept = refl

-- a prune to chunk 3 drops the first eight of nine bits
ninth_bit_left : pruned_to 1 (beyond_two (false ∷ true ∷ false ∷ true ∷ false ∷ true ∷ false ∷ true ∷ true ∷ [])) 3 ≡ record { pruned = 3; bits = true ∷ [] }
ninth_bit_left = refl

-- a prune to chunk 2 or to chunk 1 changes nothing
pruned_already : pruned_to 1 three_bits 2 ≡ three_bits
pruned_already = refl

pruned_further_already : pruned_to 1 three_bits 1 ≡ three_bits
pruned_further_already = refl

-- the chunk 5 is put back: its eight bits come before the three
chunk_put_back : unpruned 1 three_bits ((5 ∷ []) ∷ []) ≡ record {
  pruned = 1;
  bits = true ∷ false ∷ true ∷ false ∷ false ∷ false ∷ false ∷ false ∷ false ∷ true ∷ true ∷ [];
}
chunk_put_back = refl

-- two chunks are put back in order
two_chunks_put_back : unpruned 1 (beyond_two []) ((1 ∷ []) ∷ (128 ∷ []) ∷ []) ≡ record {
  pruned = 0;
  bits = true ∷ false ∷ false ∷ false ∷ false ∷ false ∷ false ∷ false ∷ false ∷ false ∷ false ∷ false ∷ false ∷ false ∷ false ∷ true ∷ [];
}
two_chunks_put_back = refl

-- putting back no chunks changes nothing
none_put_back : unpruned 1 three_bits [] ≡ three_bits
none_put_back = refl

-- chunk 2 is replaced by 5, of which three bits are kept
last_chunk_replaced : with_chunk 1 three_bits 2 (5 ∷ []) ≡ beyond_two (true ∷ false ∷ true ∷ [])
last_chunk_replaced = refl

-- chunk 2 of nine bits is replaced by 128, and the ninth bit is unchanged
whole_chunk_replaced : with_chunk 1 (beyond_two (true ∷ true ∷ true ∷ true ∷ true ∷ true ∷ true ∷ true ∷ true ∷ [])) 2 (128 ∷ []) ≡ beyond_two (false ∷ false ∷ false ∷ false ∷ false ∷ false ∷ false ∷ true ∷ true ∷ [])
whole_chunk_replaced = refl
