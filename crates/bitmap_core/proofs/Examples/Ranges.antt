-- Ranges of bits that are set to one value.
use Rattle.std.specs.Prelude.{◌≡◌, Bool, true, false, List, [], ◌∷◌}
use Rattle.std.proofs.Common.{refl, inr, inl, arith}
use Rattle.std.proofs.lemmas.Bool.{false≢true}
use Rattle.bitmap_core.specs.PrunedBits.{set_range}
use Rattle.bitmap_core.specs.Ranges.{is_between, IsRangePut, set_between}
use Rattle.bitmap_core.proofs.Examples.Pruned.{beyond_two, three_bits}

abbrev four_zeros : List Bool
four_zeros = false ∷ false ∷ false ∷ false ∷ []

-- the first position is in the range, the end is not
starts_in : is_between 1 3 1 ≡ true
starts_in = refl

end_is_out : is_between 1 3 3 ≡ false
end_is_out = refl

middle_set : set_between four_zeros 1 3 true ≡ false ∷ true ∷ true ∷ false ∷ []
middle_set = refl

all_set : set_between four_zeros 0 4 true ≡ true ∷ true ∷ true ∷ true ∷ []
all_set = refl

no_position : set_between four_zeros 2 2 true ≡ four_zeros
no_position = refl

turned_round : set_between four_zeros 3 1 true ≡ four_zeros
turned_round = refl

-- a list does not grow
past_the_end : set_between four_zeros 2 9 true ≡ false ∷ false ∷ true ∷ true ∷ []
past_the_end = refl

-- absolute positions, of which 16 to 18 are retained
last_two_cleared : set_range 1 three_bits 17 19 false ≡ beyond_two (false ∷ false ∷ false ∷ [])
last_two_cleared = refl

first_set : set_range 1 three_bits 16 17 true ≡ beyond_two (true ∷ true ∷ true ∷ [])
first_set = refl

-- in chunks of one byte: bits 1 and 2 are 6
inside_is_left : IsRangePut 1 ((0 ∷ []) ∷ []) ((2 ∷ []) ∷ []) 1 3 true → ⊥
inside_is_left p = false≢true (let e = p.inside 2 (omega arith) (omega arith) in cc)

outside_is_set : IsRangePut 1 ((0 ∷ []) ∷ []) ((14 ∷ []) ∷ []) 1 3 true → ⊥
outside_is_set p = false≢true (let e = p.outside 3 (inr (omega arith)) in cc)

before_is_set : IsRangePut 1 ((0 ∷ []) ∷ []) ((7 ∷ []) ∷ []) 1 3 true → ⊥
before_is_set p = false≢true (let e = p.outside 0 (inl (omega arith)) in cc)

one_chunk_more : IsRangePut 1 ((0 ∷ []) ∷ []) ((6 ∷ []) ∷ (0 ∷ []) ∷ []) 1 3 true → ⊥
one_chunk_more p = omega (arith, p.count)
