-- Bitmaps as debug strings, and the input of a hash.
use Rattle.std.specs.Prelude.{◌≡◌, true, false, [], ◌∷◌, ◌++◌, replicate, codes}
use Rattle.std.specs.Hash.{le_bytes}
use Rattle.std.proofs.Common.{refl}
use Rattle.bitmap_core.specs.Text.{digit, debug_text}
use Rattle.bitmap_core.specs.Fed.{fed_bits}

-- the codes of the digits 1 and 0
digit_of_a_set_bit : digit true ≡ 49 ∷ []
digit_of_a_set_bit = refl

digit_of_a_clear_bit : digit false ≡ 48 ∷ []
digit_of_a_clear_bit = refl

-- the brackets alone, and with three bits between them
text_of_nothing : debug_text [] ≡ codes "BitMap[]"
text_of_nothing = refl

text_of_three : debug_text (true ∷ false ∷ false ∷ []) ≡ codes "BitMap[100]"
text_of_three = refl

-- 64 bits are written one by one
text_of_64 : debug_text (replicate 63 false ++ true ∷ []) ≡ codes "BitMap[0000000000000000000000000000000000000000000000000000000000000001]"
text_of_64 = refl

-- of 65 bits the middle one is left out, here a one between 32 zeros and 32 ones
text_of_65 : debug_text (replicate 32 false ++ true ∷ replicate 32 true) ≡ codes "BitMap[00000000000000000000000000000000...11111111111111111111111111111111]"
text_of_65 = refl

-- the last 32 of 66 bits begin after the two in the middle
text_of_66 : debug_text (replicate 32 false ++ true ∷ true ∷ replicate 32 false) ≡ codes "BitMap[00000000000000000000000000000000...00000000000000000000000000000000]"
text_of_66 = refl

-- no bits: the number of bits in eight bytes
fed_nothing : fed_bits 4 [] ≡ (0 ∷ 0 ∷ 0 ∷ 0 ∷ 0 ∷ 0 ∷ 0 ∷ 0 ∷ []) ∷ []
unfolding fed_bits le_bytes
fed_nothing = refl

-- three bits: their number, and one chunk of one byte, which is 1 plus 4
fed_three : fed_bits 1 (true ∷ false ∷ true ∷ []) ≡ (3 ∷ 0 ∷ 0 ∷ 0 ∷ 0 ∷ 0 ∷ 0 ∷ 0 ∷ []) ∷ (5 ∷ []) ∷ []
unfolding fed_bits le_bytes
fed_three = refl

-- nine bits: their number, and two chunks of one byte, or one chunk of two
fed_nine : fed_bits 1 (replicate 8 false ++ true ∷ []) ≡ (9 ∷ 0 ∷ 0 ∷ 0 ∷ 0 ∷ 0 ∷ 0 ∷ 0 ∷ []) ∷ (0 ∷ []) ∷ (1 ∷ []) ∷ []
unfolding fed_bits le_bytes
fed_nine = refl

fed_nine_in_one : fed_bits 2 (replicate 8 false ++ true ∷ []) ≡ (9 ∷ 0 ∷ 0 ∷ 0 ∷ 0 ∷ 0 ∷ 0 ∷ 0 ∷ []) ∷ (0 ∷ 1 ∷ []) ∷ []
unfolding fed_bits le_bytes
fed_nine_in_one = refl
