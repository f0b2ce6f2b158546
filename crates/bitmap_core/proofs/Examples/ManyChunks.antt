-- Lists of chunks, and their bits.
use Rattle.std.specs.Prelude.{◌≡◌, ℕ, ◌/◌, ◌%◌, ◌<◌, Bool, true, false, not, ◌==◌, ◌&&◌, ◌||◌, [], ◌∷◌, slice_index, slice_index_or}
use Rattle.std.specs.Int.{bit_at}
use Rattle.std.proofs.Common.{zero, suc, refl, ap, sym, ◌∙◌, arith, inl, inr}
use Rattle.std.proofs.lemmas.Nat.{mod_below}
use Rattle.std.proofs.Math.Bool.{xor}
use Rattle.std.proofs.lemmas.Bool.{false≢true, cases_lt}
use Rattle.bitmap_bytes.specs.Chunk.{chunk_bit}
use Rattle.bitmap_bytes.specs.Bits.{chunks_bit, bits, IsZeroFrom, IsChunkCount, IsBitPut, AreChunks, IsBytePut}
use Rattle.bitmap_bytes.specs.Combined.{IsCombined}
use Rattle.bitmap_bytes.proofs.Chunks.Lists.{bit_of_past}
use Rattle.bitmap_bytes.proofs.Counting.Tests.{any_range_at}
use Rattle.bitmap_core.proofs.Examples.EachPlace.{table, same_at, same_bits, is_other}
use Rattle.bitmap_bytes.proofs.Chunks.Bits.{chunk_bit-mod}

-- bit 8 of two chunks of one byte is the lowest of the second
first_of_the_second : chunks_bit 1 ((0 ∷ []) ∷ (1 ∷ []) ∷ []) 8 ≡ true
first_of_the_second = refl

-- bit 26 of chunks of two bytes is bit 10 of the second chunk, which is place 2 of its second byte
within_the_second : chunks_bit 2 ((0 ∷ 0 ∷ []) ∷ (0 ∷ 4 ∷ []) ∷ []) 26 ≡ true
within_the_second = refl

-- there are zeros past the chunks
past_the_chunks : chunks_bit 1 ((255 ∷ []) ∷ []) 8 ≡ false
past_the_chunks = refl

-- two chunks of one byte, 5 and 1, have ten bits: those of 1 and 4, then that of 1
ten_bits : bits 1 ((5 ∷ []) ∷ (1 ∷ []) ∷ []) 10 ≡ true ∷ false ∷ true ∷ false ∷ false ∷ false ∷ false ∷ false ∷ true ∷ false ∷ []
unfolding bits
ten_bits = refl

-- the same bytes in one chunk of two bytes have the same bits
ten_bits_of_one_chunk : bits 2 ((5 ∷ 1 ∷ []) ∷ []) 10 ≡ true ∷ false ∷ true ∷ false ∷ false ∷ false ∷ false ∷ false ∷ true ∷ false ∷ []
unfolding bits
ten_bits_of_one_chunk = refl

-- length 0 gives no bits
no_bits : bits 4 [] 0 ≡ []
unfolding bits
no_bits = refl

-- 3 has places 0 and 1 set, and zeros from 2 on
zero_from_two : IsZeroFrom 1 ((3 ∷ []) ∷ []) 2
zero_from_two i h = elim (cases_lt i 8) [
  | inl b ↦ any_range_at (chunks_bit 1 ((3 ∷ []) ∷ [])) 2 6 i refl h (omega arith)
  | inr p ↦ bit_of_past 1 ((3 ∷ []) ∷ []) i (omega arith)
]

-- it does not have zeros from 1 on
not_zero_from_one : IsZeroFrom 1 ((3 ∷ []) ∷ []) 1 → ⊥
not_zero_from_one z = false≢true (let e = z 1 (omega arith) in cc)

-- a full byte has zeros from its end on
zero_from_the_end : IsZeroFrom 1 ((255 ∷ []) ∷ []) 8
zero_from_the_end i h = bit_of_past 1 ((255 ∷ []) ∷ []) i (omega arith)

-- no bits need no chunk, and one bit needs one
chunks_of_no_bits : IsChunkCount 4 0 0
chunks_of_no_bits = (omega arith, omega arith)

chunks_of_one_bit : IsChunkCount 4 1 1
chunks_of_one_bit = (omega arith, omega arith)

-- 32 bits need one chunk of four bytes, and 33 need two
chunks_of_32_bits : IsChunkCount 4 1 32
chunks_of_32_bits = (omega arith, omega arith)

chunks_of_33_bits : IsChunkCount 4 2 33
chunks_of_33_bits = (omega arith, omega arith)

-- one chunk is too few for 33 bits, and two are too many for 32
too_few_chunks : IsChunkCount 4 1 33 → ⊥
too_few_chunks c = omega (arith, c.0)

too_many_chunks : IsChunkCount 4 2 32 → ⊥
too_many_chunks c = omega (arith, c.1)

-- 73 bits need two chunks of nine bytes
chunks_of_73_bits : IsChunkCount 9 2 73
chunks_of_73_bits = (omega arith, omega arith)

-- bit 9 is set, in the second byte
bit_put : IsBitPut 1 ((5 ∷ []) ∷ (1 ∷ []) ∷ []) ((5 ∷ []) ∷ (3 ∷ []) ∷ []) 9 true
bit_put = record {
  here = refl;
  others = λ j d. same_bits 1 16 (λ k. not (k == 9)) ((5 ∷ []) ∷ (1 ∷ []) ∷ []) ((5 ∷ []) ∷ (3 ∷ []) ∷ []) j refl (λ h. omega arith) refl (is_other j 9 d);
  count = refl;
}

-- an additional chunk is not the result of setting a bit
chunk_more_is_not_put : IsBitPut 1 ((5 ∷ []) ∷ []) ((5 ∷ []) ∷ (2 ∷ []) ∷ []) 9 true → ⊥
chunk_more_is_not_put p = omega (arith, p.count)

-- nor is a bit set at another place
another_place : IsBitPut 1 ((5 ∷ []) ∷ []) ((7 ∷ []) ∷ []) 3 false → ⊥
another_place p = false≢true (let e = p.others 1 (λ e. omega (arith, e)) in cc)

-- two chunks of two bytes
two_chunks : AreChunks 2 ((1 ∷ 2 ∷ []) ∷ (3 ∷ 255 ∷ []) ∷ [])
two_chunks zero h = record { len = refl; bytes = each }
  where
    each : (k : ℕ) → slice_index (1 ∷ 2 ∷ []) k < 256
    each zero = omega arith
    each (suc zero) = omega arith
    each (suc (suc k)) = omega arith
two_chunks (suc zero) h = record { len = refl; bytes = each }
  where
    each : (k : ℕ) → slice_index (3 ∷ 255 ∷ []) k < 256
    each zero = omega arith
    each (suc zero) = omega arith
    each (suc (suc k)) = omega arith
two_chunks (suc (suc i)) h = absurd (omega arith)

-- a list of fewer bytes is not a chunk
short_chunk : AreChunks 2 ((1 ∷ 2 ∷ []) ∷ (3 ∷ []) ∷ []) → ⊥
short_chunk c = omega (arith, (c 1 (omega arith)).len)

-- bit 27 is in the last of four bytes, which becomes 9
byte_put : IsBytePut 2 ((1 ∷ 2 ∷ []) ∷ (3 ∷ 4 ∷ []) ∷ []) ((1 ∷ 2 ∷ []) ∷ (3 ∷ 9 ∷ []) ∷ []) 27 9
byte_put = record {
  here = λ j e. same_at (λ k. k / 8 == 3) (chunks_bit 2 ((1 ∷ 2 ∷ []) ∷ (3 ∷ 9 ∷ []) ∷ [])) (λ k. bit_at 9 (k % 8) == 1) 32 j refl (omega arith) (ap (λ q. q == 3) e);
  others = λ j d. same_bits 2 32 (λ k. not (k / 8 == 3)) ((1 ∷ 2 ∷ []) ∷ (3 ∷ 4 ∷ []) ∷ []) ((1 ∷ 2 ∷ []) ∷ (3 ∷ 9 ∷ []) ∷ []) j refl (λ h. omega arith) refl (is_other (j / 8) 3 d);
  count = refl;
}

-- a change of the adjacent byte as well is not the result of setting a bit
another_byte : IsBytePut 2 ((1 ∷ 2 ∷ []) ∷ []) ((0 ∷ 9 ∷ []) ∷ []) 8 9 → ⊥
another_byte p = false≢true (let e = p.others 0 (λ e. omega (arith, e)) in cc)

joined_byte : (f : Bool → Bool → Bool) (a b c : ℕ)
    → table (λ _. true) (chunk_bit 1 (c ∷ [])) 8 ≡ table (λ _. true) (λ t. f (chunk_bit 1 (a ∷ []) t) (chunk_bit 1 (b ∷ []) t)) 8
    → (i : ℕ) → i < 1 → (t : ℕ)
    → chunk_bit 1 (slice_index_or ((c ∷ []) ∷ []) i []) t
    ≡ f (chunk_bit 1 (slice_index_or ((a ∷ []) ∷ []) i []) t) (chunk_bit 1 (slice_index_or ((b ∷ []) ∷ []) i []) t)
joined_byte f a b c e (suc i) h t = absurd (omega arith)
joined_byte f a b c e zero h t =
    let w : t % 8 < 8 = mod_below t 8 (omega arith) in
    let m : (x : ℕ) → chunk_bit 1 (x ∷ []) t ≡ chunk_bit 1 (x ∷ []) (t % 8) = λ x. chunk_bit-mod 1 (x ∷ []) t (t % 8) (omega arith) (omega arith) in
    m c
    ∙ same_at (λ _. true) (chunk_bit 1 (c ∷ [])) (λ k. f (chunk_bit 1 (a ∷ []) k) (chunk_bit 1 (b ∷ []) k)) 8 (t % 8) e w refl
    ∙ ap (λ x. f x (chunk_bit 1 (b ∷ []) (t % 8))) (sym (m a))
    ∙ ap (λ y. f (chunk_bit 1 (a ∷ []) t) y) (sym (m b))

-- the chunks 12 and 10 of one byte, combined: `and` gives 8, `or` gives 14, and `xor` gives 6
joined_by_and : IsCombined 1 (λ x y. x && y) ((12 ∷ []) ∷ []) ((10 ∷ []) ∷ []) ((8 ∷ []) ∷ [])
joined_by_and = record { count = refl; bits = joined_byte (λ x y. x && y) 12 10 8 refl }

joined_by_or : IsCombined 1 (λ x y. x || y) ((12 ∷ []) ∷ []) ((10 ∷ []) ∷ []) ((14 ∷ []) ∷ [])
joined_by_or = record { count = refl; bits = joined_byte (λ x y. x || y) 12 10 14 refl }

joined_by_xor : IsCombined 1 xor ((12 ∷ []) ∷ []) ((10 ∷ []) ∷ []) ((6 ∷ []) ∷ [])
unfolding xor
joined_by_xor = record { count = refl; bits = joined_byte xor 12 10 6 refl }

-- 14 is not the result of `and`
not_joined : IsCombined 1 (λ x y. x && y) ((12 ∷ []) ∷ []) ((10 ∷ []) ∷ []) ((14 ∷ []) ∷ []) → ⊥
not_joined j = false≢true (let e = j.bits 0 (omega arith) 1 in cc)
