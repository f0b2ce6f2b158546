-- Bits and bytes of one chunk.
use Rattle.std.specs.Prelude.{◌≡◌, ℕ, ◌/◌, ◌%◌, ◌<◌, ◌≤◌, true, false, not, nat_lt, if◌then◌else◌, ◌==◌, ◌||◌, [], ◌∷◌, slice_index, slice_index_or}
use Rattle.std.specs.Int.{bit_at}
use Rattle.std.proofs.Common.{◌-◌, ◌⊎◌, ◌∙◌, zero, suc, refl, ap, sym, inl, inr, arith}
use Rattle.std.proofs.Math.Nat.{mod-eq_of_lt}
use Rattle.std.proofs.lemmas.Nat.{mod_below}
use Rattle.std.proofs.lemmas.Bool.{false≢true, lt-ltb, le-ltb}
use Rattle.bitmap_bytes.specs.Chunk.{chunk_bit, chunk_bits, IsBitWritten, bytes_bit, IsChunk, bit_value, byte_of, byte_bits, chunk_from, chunk_of, IsByteWritten, IsByteJoined}
use Rattle.bitmap_bytes.proofs.Chunks.Bits.{chunk_bit-mod}
use Rattle.bitmap_core.proofs.Examples.EachPlace.{same_at, same_places, is_other}

-- bit 9 of a chunk of two bytes is the second lowest of the second byte
ninth_bit : chunk_bit 2 (0 ∷ 2 ∷ []) 9 ≡ true
ninth_bit = refl

-- a position past the chunk is reduced to its place in a chunk: 25 is 16 plus 9
ninth_bit_of_the_next_chunk : chunk_bit 2 (0 ∷ 2 ∷ []) 25 ≡ true
ninth_bit_of_the_next_chunk = refl

-- bit 1 of the same chunk is in the first byte
first_byte_is_zero : chunk_bit 2 (0 ∷ 2 ∷ []) 1 ≡ false
first_byte_is_zero = refl

-- bit 23 of a chunk of three bytes is the highest of the last byte
highest_bit : chunk_bit 3 (255 ∷ 255 ∷ 128 ∷ []) 23 ≡ true
highest_bit = refl

-- 6 is 2 plus 4: the bits of one byte, the lowest first
bits_of_six : chunk_bits 1 (6 ∷ []) ≡ false ∷ true ∷ true ∷ false ∷ false ∷ false ∷ false ∷ false ∷ []
bits_of_six = refl

-- the lowest bit of the first byte and the highest of the second
bits_of_two_bytes : chunk_bits 2 (1 ∷ 128 ∷ []) ≡ true ∷ false ∷ false ∷ false ∷ false ∷ false ∷ false ∷ false ∷ false ∷ false ∷ false ∷ false ∷ false ∷ false ∷ false ∷ true ∷ []
bits_of_two_bytes = refl

-- bit 8 of a run of three bytes is the lowest of the second
bit_in_the_second_byte : bytes_bit (0 ∷ 1 ∷ 0 ∷ []) 8 ≡ true
bit_in_the_second_byte = refl

-- each bit past the bytes is zero: two bytes end before bit 16
bit_past_the_bytes : bytes_bit (255 ∷ 255 ∷ []) 16 ≡ false
bit_past_the_bytes = refl

-- a bit as a number
set_bit_is_one : bit_value true ≡ 1
set_bit_is_one = refl

clear_bit_is_zero : bit_value false ≡ 0
clear_bit_is_zero = refl

-- places 0 and 3 of a byte are 1 and 8
byte_of_two_bits : byte_of (λ t. (t == 0) || (t == 3)) ≡ 9
byte_of_two_bits = refl

-- the last place of a byte is 128, and place 8 is not in the byte
byte_of_the_last_bit : byte_of (λ t. (t == 7) || (t == 8)) ≡ 128
byte_of_the_last_bit = refl

-- 9 is 1 plus 8
bits_of_nine : byte_bits 9 ≡ true ∷ false ∷ false ∷ true ∷ false ∷ false ∷ false ∷ false ∷ []
bits_of_nine = refl

-- chunk 1 of two bytes has positions 16 to 31: 17 is place 1 of its first byte, 31 place 7 of its second
chunk_from_positions : chunk_from 2 (λ k. (k == 1) || (k == 17) || (k == 31) || (k == 32)) 1 ≡ 2 ∷ 128 ∷ []
chunk_from_positions = refl

-- four bits in one byte: 1, 4 and 8
chunk_of_four_bits : chunk_of 1 (true ∷ false ∷ true ∷ true ∷ []) 0 ≡ 13 ∷ []
chunk_of_four_bits = refl

-- the same in three bytes: past the bits there are zeros
wide_chunk_of_four_bits : chunk_of 3 (true ∷ false ∷ true ∷ true ∷ []) 0 ≡ 13 ∷ 0 ∷ 0 ∷ []
wide_chunk_of_four_bits = refl

-- the ninth of nine bits is alone in the second chunk of one byte
chunk_of_the_ninth_bit : chunk_of 1 (false ∷ false ∷ false ∷ false ∷ false ∷ false ∷ false ∷ false ∷ true ∷ []) 1 ≡ 1 ∷ []
chunk_of_the_ninth_bit = refl

-- three bytes are a chunk of three
three_bytes : IsChunk 3 (1 ∷ 2 ∷ 255 ∷ [])
three_bytes = record { len = refl; bytes = each }
  where
    each : (k : ℕ) → slice_index (1 ∷ 2 ∷ 255 ∷ []) k < 256
    each zero = omega arith
    each (suc zero) = omega arith
    each (suc (suc zero)) = omega arith
    each (suc (suc (suc k))) = omega arith

-- two bytes are not a chunk of three
two_bytes_are_not_three : IsChunk 3 (1 ∷ 2 ∷ []) → ⊥
two_bytes_are_not_three c = omega (arith, c.len)

-- 256 is not a byte
no_byte : IsChunk 2 (1 ∷ 256 ∷ []) → ⊥
no_byte c = omega (arith, c.bytes 1)

-- writing position 25 of a chunk of two bytes changes place 9, and no other
bit_written : IsBitWritten 2 (5 ∷ 0 ∷ []) (5 ∷ 2 ∷ []) 25 true
bit_written = record {
  here = refl;
  others = λ j d. same_places 2 (λ k. not (k == 9)) (5 ∷ 0 ∷ []) (5 ∷ 2 ∷ []) j (omega arith) refl (is_other (j % 16) 9 d);
}

-- a change of place 0 as well is not such a write
two_bits_written : IsBitWritten 2 (5 ∷ 0 ∷ []) (4 ∷ 2 ∷ []) 25 true → ⊥
two_bits_written w = false≢true (w.others 0 (λ e. omega (arith, e)))

-- position 12 is in the second byte, which becomes 7
byte_written : IsByteWritten 2 (1 ∷ 2 ∷ []) (1 ∷ 7 ∷ []) 12 7
byte_written = record {
  here = λ j e. here j (omega arith) (mod_below j 8 (omega arith));
  others = λ j d. same_places 2 (λ k. not (k / 8 == 1)) (1 ∷ 2 ∷ []) (1 ∷ 7 ∷ []) j (omega arith) refl (is_other (j % 16 / 8) 1 (λ e. d (omega arith)));
}
  where
    here : (j : ℕ) → j / 8 % 2 ≡ 1 → j % 8 < 8 → chunk_bit 2 (1 ∷ 7 ∷ []) j ≡ (bit_at 7 (j % 8) == 1)
    here j e h = ap (λ b. bit_at (slice_index_or (1 ∷ 7 ∷ []) b 0) (j % 8) == 1) e

-- a change of the first byte as well is not such a write
two_bytes_written : IsByteWritten 2 (1 ∷ 2 ∷ []) (0 ∷ 7 ∷ []) 12 7 → ⊥
two_bytes_written w = false≢true (w.others 0 (λ e. omega (arith, e)))

-- 171, 1010 1011 in binary, at place 4 of two bytes: its low half is above the kept part of the first byte, its high half below that of the second
pub byte_joined : IsByteJoined 2 (1 ∷ 192 ∷ []) (177 ∷ 202 ∷ []) 20 171
byte_joined = record { here = here; others = others }
  where
    here : (j : ℕ) → 4 ≤ j % 16 → j % 16 < 12 → chunk_bit 2 (177 ∷ 202 ∷ []) j ≡ (bit_at 171 (j % 16 - 4) == 1)
    here j from to =
        let below = mod_below j 16 (omega arith) in
        chunk_bit-mod 2 (177 ∷ 202 ∷ []) j (j % 16) (omega arith) (sym (mod-eq_of_lt below))
        ∙ same_at (λ k. if nat_lt k 4 then false else nat_lt k 12) (chunk_bit 2 (177 ∷ 202 ∷ [])) (λ k. bit_at 171 (k - 4) == 1) 16 (j % 16) refl below (rw (le-ltb (j % 16) 4 from) (lt-ltb (j % 16) 12 to))

    others : (j : ℕ) → (j % 16 < 4) ⊎ (12 ≤ j % 16) → chunk_bit 2 (177 ∷ 202 ∷ []) j ≡ chunk_bit 2 (1 ∷ 192 ∷ []) j
    others j side = same_places 2 (λ k. if nat_lt k 4 then true else not (nat_lt k 12)) (1 ∷ 192 ∷ []) (177 ∷ 202 ∷ []) j (omega arith) refl (elim side [
      | inl h ↦ rw (lt-ltb (j % 16) 4 h) refl
      | inr h ↦ rw (le-ltb (j % 16) 4 (omega (arith, h)), le-ltb (j % 16) 12 h) refl
    ])

-- a result with the rest of the second byte cleared is not this one
byte_joined_clears_none : IsByteJoined 2 (1 ∷ 192 ∷ []) (177 ∷ 10 ∷ []) 20 171 → ⊥
byte_joined_clears_none w = false≢true (w.others 15 (inr (omega arith)))

-- a result with the halves exchanged is not this one
byte_joined_in_order : IsByteJoined 2 (1 ∷ 192 ∷ []) (161 ∷ 203 ∷ []) 20 171 → ⊥
byte_joined_in_order w = false≢true (w.here 4 (omega arith) (omega arith))
