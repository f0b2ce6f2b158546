-- The encodings of bitmaps.
use Rattle.std.specs.Prelude.{◌≡◌, true, false, [], ◌∷◌, ◌++◌, replicate}
use Rattle.std.proofs.Common.{refl}
use Rattle.bitmap_bytes.specs.Bits.{chunk_count}
use Rattle.bitmap_core.specs.Encoding.{encoding, pruned_encoding}

-- the number of chunks of four bytes: 0 for no bits, 1 for 1 and for 32 bits, 2 for 33
chunks_of_none : chunk_count 4 0 ≡ 0
chunks_of_none = refl

chunks_of_one : chunk_count 4 1 ≡ 1
chunks_of_one = refl

chunks_of_32 : chunk_count 4 32 ≡ 1
chunks_of_32 = refl

chunks_of_33 : chunk_count 4 33 ≡ 2
chunks_of_33 = refl

-- a chunk of nine bytes has 72 bits
wide_chunks_of_72 : chunk_count 9 72 ≡ 1
wide_chunks_of_72 = refl

wide_chunks_of_73 : chunk_count 9 73 ≡ 2
wide_chunks_of_73 = refl

-- the greatest length in chunks of one byte: 2 to the power 61
chunks_of_the_greatest : chunk_count 1 18446744073709551615 ≡ 2305843009213693952
chunks_of_the_greatest = refl

-- no bits: only the length
encoding_of_nothing : encoding 4 [] ≡ 0 ∷ 0 ∷ 0 ∷ 0 ∷ 0 ∷ 0 ∷ 0 ∷ 0 ∷ []
unfolding encoding
encoding_of_nothing = refl

-- ten set bits in chunks of one byte: the length, eight bits, two bits
encoding_of_ten : encoding 1 (replicate 10 true) ≡ 0 ∷ 0 ∷ 0 ∷ 0 ∷ 0 ∷ 0 ∷ 0 ∷ 10 ∷ 255 ∷ 3 ∷ []
unfolding encoding
encoding_of_ten = refl

-- two bits, 1 and 0, in a chunk of four bytes
encoding_of_two : encoding 4 (true ∷ false ∷ []) ≡ 0 ∷ 0 ∷ 0 ∷ 0 ∷ 0 ∷ 0 ∷ 0 ∷ 2 ∷ 1 ∷ 0 ∷ 0 ∷ 0 ∷ []
unfolding encoding
encoding_of_two = refl

-- 33 bits in chunks of four bytes, the last one set: it is the lowest of the second chunk
encoding_of_33 : encoding 4 (replicate 32 false ++ true ∷ []) ≡ 0 ∷ 0 ∷ 0 ∷ 0 ∷ 0 ∷ 0 ∷ 0 ∷ 33 ∷ 0 ∷ 0 ∷ 0 ∷ 0 ∷ 1 ∷ 0 ∷ 0 ∷ 0 ∷ []
unfolding encoding
encoding_of_33 = refl

-- 258 is 256 plus 2: the more significant byte comes first
encoding_of_258 : encoding 64 (replicate 258 false) ≡ 0 ∷ 0 ∷ 0 ∷ 0 ∷ 0 ∷ 0 ∷ 1 ∷ 2 ∷ replicate 64 0
unfolding encoding
encoding_of_258 = refl

-- three pruned chunks and the bits 0, 1: the number of pruned chunks, the number of bits, and the chunk
encoding_of_pruned : pruned_encoding 2 (record { pruned = 3; bits = false ∷ true ∷ [] }) ≡ 0 ∷ 0 ∷ 0 ∷ 0 ∷ 0 ∷ 0 ∷ 0 ∷ 3 ∷ 0 ∷ 0 ∷ 0 ∷ 0 ∷ 0 ∷ 0 ∷ 0 ∷ 2 ∷ 2 ∷ 0 ∷ []
unfolding pruned_encoding encoding
encoding_of_pruned = refl

-- 258 pruned chunks and no bits
encoding_of_a_pruned_front : pruned_encoding 1 (record { pruned = 258; bits = [] }) ≡ 0 ∷ 0 ∷ 0 ∷ 0 ∷ 0 ∷ 0 ∷ 1 ∷ 2 ∷ 0 ∷ 0 ∷ 0 ∷ 0 ∷ 0 ∷ 0 ∷ 0 ∷ 0 ∷ []
unfolding pruned_encoding encoding
encoding_of_a_pruned_front = refl
