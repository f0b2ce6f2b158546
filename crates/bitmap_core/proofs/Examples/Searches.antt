-- Searches and counts, and the definitions that they use.
use Rattle.std.specs.Prelude.{◌≡◌, ◌<◌, ◌≤◌, true, false, [], ◌∷◌, Some, None, ◌==◌, ◌||◌}
use Rattle.std.proofs.Common.{ℕ, zero, suc, refl, arith}
use Rattle.std.proofs.lemmas.Bool.{false≢true}
use Rattle.bitmap_bytes.specs.Chunk.{is_wanted, IsLastBelow, IsNth}
use Rattle.bitmap_core.specs.Meaning.{IsRetained, zeros_between, zeros, seen_as}
use Rattle.bitmap_core.specs.Searches.{first, last, next_one, next_zero, prev_one, prev_zero, ones_count, select_one, IsNext, IsPrevious, HasNoNext, HasNoPrevious}
use Rattle.bitmap_core.proofs.Examples.Readers.{bitmap, ten}

-- `ten` has ten bits in chunks of one byte, set at 0, 2, 8 and 9. `bitmap` has two pruned chunks of one byte, and bits 0, 1, 1 at 16 to 18

-- the first and the last of three positions, and of none
first_of_three : first (3 ∷ 5 ∷ 9 ∷ []) ≡ Some 3
first_of_three = refl

last_of_three : last (3 ∷ 5 ∷ 9 ∷ []) ≡ Some 9
last_of_three = refl

first_of_none : first [] ≡ None
first_of_none = refl

last_of_none : last [] ≡ None
last_of_none = refl

-- unset positions
zeros_of_ten : zeros 1 ten 0 10 ≡ 1 ∷ 3 ∷ 4 ∷ 5 ∷ 6 ∷ 7 ∷ []
zeros_of_ten = refl

zeros_of_pruned : zeros 1 bitmap 0 18446744073709551615 ≡ 16 ∷ []
zeros_of_pruned = refl

zeros_turned_round : zeros 1 ten 7 1 ≡ []
zeros_turned_round = refl

zeros_of_a_test : zeros_between (λ k. (k == 2) || (k == 4)) 1 6 ≡ 1 ∷ 3 ∷ 5 ∷ []
zeros_of_a_test = refl

-- the first set position from 0 on is 0 itself, and from 3 on it is 8; from the length on there is none
next_one_at_its_start : next_one 1 ten 0 ≡ Some 0
next_one_at_its_start = refl

next_one_after_zeros : next_one 1 ten 3 ≡ Some 8
next_one_after_zeros = refl

next_one_at_the_length : next_one 1 ten 10 ≡ None
next_one_at_the_length = refl

-- pruned positions are skipped
next_one_past_pruned : next_one 1 bitmap 0 ≡ Some 17
next_one_past_pruned = refl

next_zero_past_pruned : next_zero 1 bitmap 0 ≡ Some 16
next_zero_past_pruned = refl

-- no position at or past the length counts as unset
next_zero_in_ten : next_zero 1 ten 2 ≡ Some 3
next_zero_in_ten = refl

next_zero_at_the_end : next_zero 1 ten 8 ≡ None
next_zero_at_the_end = refl

-- the last set position below 9 is 8, and below 8 it is 2; below 0 there is none
prev_one_below_nine : prev_one 1 ten 9 ≡ Some 8
prev_one_below_nine = refl

prev_one_below_eight : prev_one 1 ten 8 ≡ Some 2
prev_one_below_eight = refl

prev_one_below_zero : prev_one 1 ten 0 ≡ None
prev_one_below_zero = refl

-- an end past the length counts as the length
prev_one_past_the_length : prev_one 1 ten 100 ≡ Some 9
prev_one_past_the_length = refl

prev_zero_of_ten : prev_zero 1 ten 10 ≡ Some 7
prev_zero_of_ten = refl

prev_zero_of_pruned : prev_zero 1 bitmap 16 ≡ None
prev_zero_of_pruned = refl

-- counts of all positions, of a part, and of a reversed range
count_of_all : ones_count 1 ten 0 18446744073709551615 ≡ 4
count_of_all = refl

count_of_a_part : ones_count 1 ten 1 9 ≡ 2
count_of_a_part = refl

count_turned_round : ones_count 1 ten 9 1 ≡ 0
count_turned_round = refl

count_of_pruned : ones_count 1 bitmap 0 18 ≡ 1
count_of_pruned = refl

-- set positions by their number
select_first : select_one 1 ten 0 ≡ Some 0
select_first = refl

select_last : select_one 1 ten 3 ≡ Some 9
select_last = refl

select_past_the_last : select_one 1 ten 4 ≡ None
select_past_the_last = refl

select_in_pruned : select_one 1 bitmap 1 ≡ Some 18
select_in_pruned = refl

-- a bit that the search looks for
set_is_wanted : is_wanted true true ≡ true
set_is_wanted = refl

unset_is_not_wanted : is_wanted true false ≡ false
unset_is_not_wanted = refl

unset_is_wanted : is_wanted false false ≡ true
unset_is_wanted = refl

seen_inverted : (seen_as false ten).bit 1 ≡ true
seen_inverted = refl

seen_as_it_is : (seen_as true ten).bit 1 ≡ false
seen_as_it_is = refl

-- of 2 and 4 the last below 5 is 4
last_below_five : IsLastBelow (λ k. (k == 2) || (k == 4)) 5 4
last_below_five = record { below = omega arith; passes = refl; none_after = λ i h s. absurd (omega arith) }

last_below_five_is_not_two : IsLastBelow (λ k. (k == 2) || (k == 4)) 5 2 → ⊥
last_below_five_is_not_two l = false≢true (let e = l.none_after 4 (omega arith) (omega arith) in cc)

-- 4 has one position before it, counted from 1 on
nth_of_two : IsNth (λ k. (k == 2) || (k == 4)) 1 6 1 4
nth_of_two = record { above = omega arith; below = omega arith; passes = refl; rank = refl }

nth_of_two_is_not_zeroth : IsNth (λ k. (k == 2) || (k == 4)) 1 6 0 4 → ⊥
nth_of_two_is_not_zeroth l = omega (arith, l.rank)

-- in `ten`, the next set position from 3 on is 8; it is not 9, and not 2
eight_is_next : IsNext 1 ten true 3 8
eight_is_next = record { retained = (omega arith, omega arith); above = omega arith; bit = refl; least = least }
  where
    least : (k : ℕ) → IsRetained 1 ten k → 3 ≤ k → k < 8 → ten.bit k ≡ false
    least (suc (suc (suc zero))) r h s = refl
    least (suc (suc (suc (suc zero)))) r h s = refl
    least (suc (suc (suc (suc (suc zero))))) r h s = refl
    least (suc (suc (suc (suc (suc (suc zero)))))) r h s = refl
    least (suc (suc (suc (suc (suc (suc (suc zero))))))) r h s = refl
    least k r h s = absurd (omega arith)

nine_is_not_next : IsNext 1 ten true 3 9 → ⊥
nine_is_not_next l = false≢true (let e = l.least 8 (omega arith, omega arith) (omega arith) (omega arith) in cc)

two_is_not_next : IsNext 1 ten true 3 2 → ⊥
two_is_not_next l = omega (arith, l.above)

-- the last set position below 10 is 9
nine_is_previous : IsPrevious 1 ten true 10 9
nine_is_previous = record { retained = (omega arith, omega arith); below = omega arith; bit = refl; greatest = λ k r h s. absurd (omega arith) }

eight_is_not_previous : IsPrevious 1 ten true 10 8 → ⊥
eight_is_not_previous l = false≢true (let e = l.greatest 9 (omega arith, omega arith) (omega arith) (omega arith) in cc)

-- nothing is set from 10 on, and nothing below 0
none_from_ten : HasNoNext 1 ten true 10
none_from_ten k r h = absurd (omega (arith, r.1))

none_below_zero : HasNoPrevious 1 ten true 0
none_below_zero k r h = absurd (omega arith)
