-- Edits of a batch. Each chunk has one byte, unless another width is named.
use Rattle.std.specs.Prelude.{◌≡◌, ◌^◌, ◌-◌, true, false, List, [], ◌∷◌, ◌++◌, replicate, nat_eq}
use Rattle.std.specs.Set.{distinct_count}
use Rattle.std.proofs.Common.{refl, arith}
use Rattle.std.proofs.lemmas.Bool.{cases_eq, false≢true, ne_eqb}
use mathlib.Core.Logic.{inl, inr}
use Rattle.bitmap_core.specs.PrunedBits.{PrunedBits}
use Rattle.historical_bitmap.specs.Edits.{Edit, pushes, sets, after, after_all, IsAccepted, AllAccepted, from_to, touches, touched, IsWithin}
use Rattle.historical_bitmap.specs.Edits.Edit.{Push, Pop, Set, Prune}

-- eight true bits, then four, then four false ones
abbrev pub sixteen : PrunedBits
sixteen = record { pruned = 0; bits = replicate 12 true ++ replicate 4 false }

-- one chunk pruned, and three bits 1, 0, 1 at the positions 8, 9 and 10
abbrev pub beyond_one : PrunedBits
beyond_one = record { pruned = 1; bits = true ∷ false ∷ true ∷ [] }

-- the bitmap after each edit
push_leaves : after 1 beyond_one (Push true) ≡ record { pruned = 1; bits = true ∷ false ∷ true ∷ true ∷ [] }
push_leaves = refl

pop_leaves : after 1 beyond_one Pop ≡ record { pruned = 1; bits = true ∷ false ∷ [] }
pop_leaves = refl

set_leaves : after 1 beyond_one (Set 9 true) ≡ record { pruned = 1; bits = true ∷ true ∷ true ∷ [] }
set_leaves = refl

-- position 11 is in the chunk that starts at 8, so no chunk is dropped
prune_to_front_leaves : after 1 beyond_one (Prune 11) ≡ beyond_one
prune_to_front_leaves = refl

prune_leaves : after 1 sixteen (Prune 9) ≡ record { pruned = 1; bits = replicate 4 true ++ replicate 4 false }
prune_leaves = refl

-- a push touches the chunk of the old length, 11 / 8 and 16 / 8
push_touches_open_chunk : touches 1 beyond_one (Push true) ≡ 1 ∷ []
push_touches_open_chunk = refl

push_touches_new_chunk : touches 1 sixteen (Push true) ≡ 2 ∷ []
push_touches_new_chunk = refl

-- the sixteenth bit is still in the second chunk, 15 / 8
push_touches_filled_chunk : touches 1 (record { pruned = 1; bits = replicate 7 true }) (Push true) ≡ 1 ∷ []
push_touches_filled_chunk = refl

-- a pop touches the chunk of the new length, 15 / 8
pop_touches : touches 1 sixteen Pop ≡ 1 ∷ []
pop_touches = refl

-- a set touches the chunk of its bit; in chunks of four bytes, position 9 is in chunk 0
set_touches : touches 1 sixteen (Set 9 false) ≡ 1 ∷ []
set_touches = refl

wide_set_touches : touches 4 sixteen (Set 9 false) ≡ 0 ∷ []
wide_set_touches = refl

-- a prune touches each chunk that it drops, and none if it drops none
prune_touches : touches 1 sixteen (Prune 16) ≡ 0 ∷ 1 ∷ []
prune_touches = refl

idle_prune_touches : touches 1 beyond_one (Prune 9) ≡ []
idle_prune_touches = refl

numbers : from_to 3 6 ≡ 3 ∷ 4 ∷ 5 ∷ []
numbers = refl

no_numbers : from_to 6 3 ≡ []
no_numbers = refl

-- a batch: bit 0 cleared, the first chunk pruned, the last bit dropped
abbrev batch : List Edit
batch = Set 0 false ∷ Prune 8 ∷ Pop ∷ []

batch_leaves : after_all 1 sixteen batch ≡ record { pruned = 1; bits = replicate 4 true ++ replicate 3 false }
batch_leaves = refl

-- it touches chunk 0 twice, and chunk 1
batch_touches : touched 1 sixteen batch ≡ 0 ∷ 0 ∷ 1 ∷ []
batch_touches = refl

batch_touches_two : distinct_count nat_eq (touched 1 sixteen batch) ≡ 2
batch_touches_two = refl

-- a pop of position 10 touches chunk 10 / 8, and a prune after a pruned prefix touches the chunks from 1 on
pop_beyond_one_touches : touches 1 beyond_one Pop ≡ 1 ∷ []
pop_beyond_one_touches = refl

prune_beyond_one_touches : touches 1 (record { pruned = 1; bits = replicate 16 true }) (Prune 24) ≡ 1 ∷ 2 ∷ []
prune_beyond_one_touches = refl

-- a push is accepted at 2 bits below 2 ^ 64, and not at the greatest length: 7 bits after the most pruned chunks
push_is_accepted : IsAccepted 1 (record { pruned = 2 ^ 61 - 1; bits = replicate 6 true }) (Push true)
push_is_accepted = omega arith

push_past_64_is_refused : IsAccepted 1 (record { pruned = 2 ^ 61 - 1; bits = replicate 7 true }) (Push true) → ⊥
push_past_64_is_refused accepted = omega (arith, accepted)

-- one retained bit is enough for a pop, and pruned ones alone are not
pop_is_accepted : IsAccepted 1 (record { pruned = 1; bits = true ∷ [] }) Pop
pop_is_accepted = omega arith

pop_of_nothing_is_refused : IsAccepted 1 (record { pruned = 1; bits = [] }) Pop → ⊥
pop_of_nothing_is_refused accepted = omega (arith, accepted)

-- of the positions 7 to 11, those from 8 to 10 are retained
set_of_the_first_is_accepted : IsAccepted 1 beyond_one (Set 8 false)
set_of_the_first_is_accepted = (omega arith, omega arith)

set_of_the_last_is_accepted : IsAccepted 1 beyond_one (Set 10 false)
set_of_the_last_is_accepted = (omega arith, omega arith)

set_of_a_pruned_one_is_refused : IsAccepted 1 beyond_one (Set 7 false) → ⊥
set_of_a_pruned_one_is_refused accepted = omega (arith, accepted.0)

set_at_the_length_is_refused : IsAccepted 1 beyond_one (Set 11 false) → ⊥
set_at_the_length_is_refused accepted = omega (arith, accepted.1)

prune_to_the_length_is_accepted : IsAccepted 1 beyond_one (Prune 11)
prune_to_the_length_is_accepted = omega arith

prune_past_the_length_is_refused : IsAccepted 1 beyond_one (Prune 12) → ⊥
prune_past_the_length_is_refused accepted = omega (arith, accepted)

batch_is_accepted : AllAccepted 1 sixteen batch
batch_is_accepted = ((omega arith, omega arith), (omega arith, (omega arith, tt)))

-- the condition of each edit is about the bitmap after those before it: three bits allow three pops
four_pops_are_refused : AllAccepted 1 beyond_one (Pop ∷ Pop ∷ Pop ∷ Pop ∷ []) → ⊥
four_pops_are_refused (first, (second, (third, (fourth, rest)))) = omega (arith, fourth)

-- each of two numbers, one of them twice, is in the other list, and 2 is not in the first
within : IsWithin (1 ∷ 3 ∷ 1 ∷ []) (3 ∷ 2 ∷ 1 ∷ [])
within q h = elim (cases_eq q 1) [
  | inl a ↦ rw a refl
  | inr b ↦ elim (cases_eq q 3) [ inl a ↦ rw a refl | inr d ↦ let e = rw (ne_eqb q 1 b, ne_eqb q 3 d) at h in cc ]
]

not_within : IsWithin (3 ∷ 2 ∷ 1 ∷ []) (1 ∷ 3 ∷ 1 ∷ []) → ⊥
not_within is_within = false≢true (is_within 2 refl)

-- a list of pushes appends its bits in order
pushes_leave : after_all 1 beyond_one (pushes (true ∷ false ∷ [])) ≡ record { pruned = 1; bits = true ∷ false ∷ true ∷ true ∷ false ∷ [] }
pushes_leave = refl

-- a range is set by one edit per position, its end excluded
three_sets : sets 3 6 true ≡ Set 3 true ∷ Set 4 true ∷ Set 5 true ∷ []
three_sets = refl

no_sets : sets 6 3 true ≡ []
no_sets = refl

-- with chunks of four bytes, twenty pops and ten pushes on forty true bits touch the second chunk and the first
abbrev pops_and_pushes : List Edit
pops_and_pushes = replicate 20 Pop ++ replicate 10 (Push false)

pops_and_pushes_leave : after_all 4 (record { pruned = 0; bits = replicate 40 true }) pops_and_pushes ≡ record { pruned = 0; bits = replicate 20 true ++ replicate 10 false }
pops_and_pushes_leave = refl

pops_and_pushes_touch_two : distinct_count nat_eq (touched 4 (record { pruned = 0; bits = replicate 40 true }) pops_and_pushes) ≡ 2
pops_and_pushes_touch_two = refl
