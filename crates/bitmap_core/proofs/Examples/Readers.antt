-- Meanings of bitmaps, set positions, and words.
use Rattle.std.specs.Prelude.{◌≡◌, ◌^◌, true, false, ◌==◌, ◌||◌, [], ◌∷◌}
use Rattle.std.specs.Int.{bit_at as digit_at}
use Rattle.std.proofs.Common.{zero, suc, refl, sym, arith}
use Rattle.std.proofs.lemmas.Bool.{false≢true}
use Rattle.bitmap_bytes.proofs.Counting.Tests.{any_range_at}
use Rattle.bitmap_core.specs.PrunedBits.{PrunedBits}
use Rattle.bitmap_bytes.specs.Bits.{chunks_bit}
use Rattle.bitmap_bytes.specs.Words.{starts_word, word_start, next_word, IsCut}
use Rattle.bitmap_core.specs.Meaning.{Meaning, plain_meaning, pruned_meaning, IsLawful, IsRetainedChunk, IsRetained, ShowsChunk, ones_between, ones, words_between, words, word_bit, left_from, run_end, IsScan}

-- two bits, 1 and 0, with nothing pruned
abbrev pub plain : Meaning
plain = plain_meaning (true ∷ false ∷ [])

nothing_is_pruned : plain.pruned ≡ 0
nothing_is_pruned = refl

plain_has_two_bits : plain.len ≡ 2
plain_has_two_bits = refl

plain_begins_with_one : plain.bit 0 ≡ true
plain_begins_with_one = refl

plain_goes_on_with_zero : plain.bit 1 ≡ false
plain_goes_on_with_zero = refl

-- bits 0, 1, 1 after two pruned chunks
abbrev pub three_bits : PrunedBits
three_bits = record { pruned = 2; bits = false ∷ true ∷ true ∷ [] }

-- with chunks of one byte the length is 19, and 17 is the first set position
abbrev pub bitmap : Meaning
bitmap = pruned_meaning 1 three_bits

two_chunks_are_pruned : bitmap.pruned ≡ 2
two_chunks_are_pruned = refl

pruned_has_nineteen_bits : bitmap.len ≡ 19
pruned_has_nineteen_bits = refl

pruned_begins_with_zero : bitmap.bit 16 ≡ false
pruned_begins_with_zero = refl

pruned_goes_on_with_one : bitmap.bit 17 ≡ true
pruned_goes_on_with_one = refl

-- it is a valid meaning
pruned_is_lawful : IsLawful 1 bitmap
pruned_is_lawful = record {
  width = record { positive = omega arith; fits = omega arith };
  pruned_within = omega arith;
  len_fits = omega arith;
  chunks_fit = omega arith;
}

-- not valid: chunks without bytes, a length that does not fit u64, and a pruned prefix longer than the bitmap
no_bytes_a_chunk : IsLawful 0 bitmap → ⊥
no_bytes_a_chunk l = omega (arith, l.width.positive)

too_long : IsLawful 1 (record { pruned = 0; len = 2 ^ 64; bit = λ k. false }) → ⊥
too_long l = omega (arith, l.len_fits)

pruned_past_the_length : IsLawful 1 (record { pruned = 3; len = 23; bit = λ k. false }) → ⊥
pruned_past_the_length l = omega (arith, l.pruned_within)

-- chunks whose bits do not fit u64 are too wide
too_wide : IsLawful 2305843009213693952 plain → ⊥
too_wide l = omega (arith, l.width.fits)

-- chunk 2 has a retained bit, chunk 1 is pruned, chunk 3 has not begun
third_chunk_is_retained : IsRetainedChunk 1 bitmap 2
third_chunk_is_retained = (omega arith, omega arith)

second_chunk_is_not : IsRetainedChunk 1 bitmap 1 → ⊥
second_chunk_is_not r = omega (arith, r.0)

fourth_chunk_is_not : IsRetainedChunk 1 bitmap 3 → ⊥
fourth_chunk_is_not r = omega (arith, r.1)

-- 16 and 18 are retained, 15 and 19 are not
first_is_retained : IsRetained 1 bitmap 16
first_is_retained = (omega arith, omega arith)

last_is_retained : IsRetained 1 bitmap 18
last_is_retained = (omega arith, omega arith)

pruned_is_not_retained : IsRetained 1 bitmap 15 → ⊥
pruned_is_not_retained r = omega (arith, r.0)

length_is_not_retained : IsRetained 1 bitmap 19 → ⊥
length_is_not_retained r = omega (arith, r.1)

-- 254 may be chunk 2: its lowest bits are 0, 1, 1, and bits past the length may be set
shows_the_third_chunk : ShowsChunk 1 bitmap 2 (254 ∷ [])
shows_the_third_chunk zero h s = refl
shows_the_third_chunk (suc zero) h s = refl
shows_the_third_chunk (suc (suc zero)) h s = refl
shows_the_third_chunk (suc (suc (suc k))) h s = absurd (omega arith)

-- 2 may not: its third bit is 0
does_not_show_it : ShowsChunk 1 bitmap 2 (2 ∷ []) → ⊥
does_not_show_it s = false≢true (let e = s 2 (omega arith) (omega arith) in cc)

-- of 2, 3, 5 and 6, those from 3 up to 6
two_of_four : ones_between (λ k. (k == 2) || (k == 3) || (k == 5) || (k == 6)) 3 6 ≡ 3 ∷ 5 ∷ []
two_of_four = refl

-- there is none from 6 up to 3
none_of_four : ones_between (λ k. (k == 2) || (k == 3) || (k == 5) || (k == 6)) 6 3 ≡ []
none_of_four = refl

-- the set positions of the bitmap: all, those from 18 on, those below 18, and none of a reversed range
ones_of_all : ones 1 bitmap 0 18446744073709551615 ≡ 17 ∷ 18 ∷ []
ones_of_all = refl

ones_from : ones 1 bitmap 18 100 ≡ 18 ∷ []
ones_from = refl

ones_up_to : ones 1 bitmap 3 18 ≡ 17 ∷ []
ones_up_to = refl

ones_of_none : ones 1 bitmap 18 17 ≡ []
ones_of_none = refl

-- at the upper end of u64, after 288230376151711743 chunks of eight bytes: the first of three bits, and the last
ones_near_the_end : ones 8 (pruned_meaning 8 (record { pruned = 288230376151711743; bits = true ∷ false ∷ true ∷ [] })) 0 18446744073709551615 ≡ 18446744073709551552 ∷ 18446744073709551554 ∷ []
ones_near_the_end = refl

-- a chunk of nine bytes has a word of 64 bits and one of 8: words begin at 0, 64, 72 and 136
word_at_the_front : starts_word 9 0 ≡ true
word_at_the_front = refl

short_word_begins : starts_word 9 64 ≡ true
short_word_begins = refl

word_of_the_second_chunk : starts_word 9 72 ≡ true
word_of_the_second_chunk = refl

no_word_begins : starts_word 9 128 ≡ false
no_word_begins = refl

short_word_of_the_second_chunk : starts_word 9 136 ≡ true
short_word_of_the_second_chunk = refl

-- the words that contain 71, 100 and 140
word_of_71 : word_start 9 71 ≡ 64
word_of_71 = refl

word_of_100 : word_start 9 100 ≡ 72
word_of_100 = refl

word_of_140 : word_start 9 140 ≡ 136
word_of_140 = refl

-- the word after those at 0, at 64 and at 72
word_after_the_first : next_word 9 0 ≡ 64
word_after_the_first = refl

word_after_the_short_one : next_word 9 64 ≡ 72
word_after_the_short_one = refl

word_after_the_next_chunk_begins : next_word 9 72 ≡ 136
word_after_the_next_chunk_begins = refl

-- a chunk of one byte is one word, and so is one of four and one of eight; one of sixteen has two
next_byte : next_word 1 8 ≡ 16
next_byte = refl

next_four_bytes : next_word 4 32 ≡ 64
next_four_bytes = refl

next_eight_bytes : next_word 8 64 ≡ 128
next_eight_bytes = refl

within_sixteen_bytes : next_word 16 0 ≡ 64
within_sixteen_bytes = refl

-- positions 0 to 72 of chunks of nine bytes are in the words at 0, 64 and 72
three_words : words_between 9 0 73 ≡ 3
three_words = refl

-- positions 65 to 71 are within one word
one_word : words_between 9 65 72 ≡ 1
one_word = refl

-- an empty range meets no word, even if it is within one
no_word : words_between 9 10 10 ≡ 0
no_word = refl

-- 65 positions of chunks of eight bytes are in two words
two_words : words_between 8 0 65 ≡ 2
two_words = refl

-- the three retained bits after two chunks of one byte are one word, and bits past the length do not count
word_of_pruned : words 1 bitmap 0 100 ≡ 1
word_of_pruned = refl

no_word_past_pruned : words 1 bitmap 19 100 ≡ 0
no_word_past_pruned = refl

-- 5 is 1 plus 4: in a word at 64 it has the positions 64 and 66
bit_of_a_word : word_bit 64 5 66 ≡ true
bit_of_a_word = refl

no_bit_of_a_word : word_bit 64 5 65 ≡ false
no_bit_of_a_word = refl

-- ten bits in chunks of one byte, set at 0, 2, 8 and 9
abbrev pub ten : Meaning
ten = plain_meaning (true ∷ false ∷ true ∷ false ∷ false ∷ false ∷ false ∷ false ∷ true ∷ true ∷ [])

-- the bit at 2 is left of the word at 0, and then come those from the word at 8 on
left_in_the_first_word : left_from ten 0 4 8 10 ≡ 2 ∷ 8 ∷ 9 ∷ []
left_in_the_first_word = refl

-- if nothing is left of the last word, nothing is left
nothing_left : left_from ten 8 0 10 10 ≡ []
nothing_left = refl

-- two words in place from position 3 on end at position 131
two_words_in_place : run_end 3 ([] ∷ [] ∷ []) ≡ 131
two_words_in_place = refl

-- an iterator over all ten bits that has loaded the word at 0: one of two words is to come
iterator : IsScan 1 ten 8 10 [] (5 ∷ []) 1 0
iterator = record {
  lawful = record {
    width = record { positive = omega arith; fits = omega arith };
    pruned_within = omega arith;
    len_fits = omega arith;
    chunks_fit = omega arith;
  };
  within = omega arith;
  retained = λ h. omega arith;
  inside = omega arith;
  bits = λ i h. absurd (omega arith);
  aligned = λ h. refl;
  shown = λ h ne. absurd (ne refl);
  counted = omega arith;
  covered = omega arith;
}

-- 70 bits, none set
abbrev pub unset : Meaning
unset = record { pruned = 0; len = 70; bit = λ _. false }

-- an iterator over them at its start, with the first 64 bits in place
iterator_in_place : IsScan 1 unset 0 70 ((0 ∷ 0 ∷ 0 ∷ 0 ∷ 0 ∷ 0 ∷ 0 ∷ 0 ∷ []) ∷ []) [] 0 0
iterator_in_place = record {
  lawful = record {
    width = record { positive = omega arith; fits = omega arith };
    pruned_within = omega arith;
    len_fits = omega arith;
    chunks_fit = omega arith;
  };
  within = omega arith;
  retained = λ h. omega arith;
  inside = omega arith;
  bits = λ i h. any_range_at (chunks_bit 8 ((0 ∷ 0 ∷ 0 ∷ 0 ∷ 0 ∷ 0 ∷ 0 ∷ 0 ∷ []) ∷ [])) 0 64 i refl (omega arith) h;
  aligned = λ h. refl;
  shown = λ h ne. absurd (ne refl);
  counted = omega arith;
  covered = omega arith;
}

-- not valid: two words loaded already, none loaded, another chunk in the iterator, a position at which no word begins, and another word in place
too_many_loads : IsScan 1 ten 8 10 [] (5 ∷ []) 2 0 → ⊥
too_many_loads s = omega (arith, s.counted)

no_load : IsScan 1 ten 8 10 [] (5 ∷ []) 0 0 → ⊥
no_load s = omega (arith, s.covered)

another_chunk : IsScan 9 unset 64 70 [] (1 ∷ []) 1 0 → ⊥
another_chunk s = false≢true (sym (s.shown (omega arith) (λ e. absurd (omega (arith, e))) 0 (omega arith) (omega arith)))

within_a_word : IsScan 1 ten 3 10 [] (5 ∷ []) 1 0 → ⊥
within_a_word s = false≢true (s.aligned (omega arith))

another_word : IsScan 1 unset 0 70 ((1 ∷ []) ∷ []) [] 0 0 → ⊥
another_word s = false≢true (sym (s.bits 0 (omega arith)))

-- 5 has no bit from its fourth on: a word at 64 that ends at 67
cut : IsCut 64 5 67
cut i h s = any_range_at (λ k. digit_at 5 k == 1) 3 61 i refl (omega arith) h

-- it has one at 66
not_cut : IsCut 64 5 66 → ⊥
not_cut c = false≢true (let e = c 2 (omega arith) (omega arith) in cc)
