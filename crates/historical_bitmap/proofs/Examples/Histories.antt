-- Three commits of chunks of one byte: the byte FF; then a byte 0F after it, with the first chunk pruned; then eight pops.
use Rattle.std.specs.Prelude.{◌≡◌, ◌^◌, ◌-◌, true, false, Bool, ℕ, List, [], ◌∷◌, ◌++◌, Some, None, replicate}
use Rattle.std.specs.List.Sorted.{IsStrictlySortedBy}
use Rattle.std.proofs.Common.{refl, arith}
use Rattle.std.proofs.lemmas.Bool.{cases_eq}
use mathlib.Core.Logic.{inl, inr}
use Rattle.bitmap_core.specs.PrunedBits.{PrunedBits}
use Rattle.historical_bitmap.specs.Record.{ReverseRecord}
use Rattle.historical_bitmap.specs.Record.ChunkDiff.{Removed, Added, Pruned}
use Rattle.historical_bitmap.specs.History.{kept_under, latest, earliest, from_number, up_to_number, past_number, undone, snapshots, costs, left_by, IsLeftBy, first_kept, RiseInNumber, EntriesRise, AreUpTo}

-- the current bitmap: one pruned chunk and no retained bit
abbrev pub current : PrunedBits
current = record { pruned = 1; bits = [] }

abbrev pub commits : List (ℕ × ReverseRecord)
commits =
    (1, record { len = 0; pruned = 0; entries = (0, Added) ∷ [] })
    ∷ (2, record { len = 8; pruned = 0; entries = (0, Pruned (255 ∷ [])) ∷ (1, Added) ∷ [] })
    ∷ (3, record { len = 16; pruned = 1; entries = (1, Removed (15 ∷ [])) ∷ [] })
    ∷ []

-- the committed bitmaps
abbrev first : PrunedBits
first = record { pruned = 0; bits = replicate 8 true }

abbrev second : PrunedBits
second = record { pruned = 1; bits = replicate 4 true ++ replicate 4 false }

abbrev history : List (ℕ × PrunedBits)
history = (1, first) ∷ (2, second) ∷ (3, current) ∷ []

old_states : snapshots 1 commits current ≡ history
old_states = refl

-- with all records undone the bitmap is empty, as before the first commit
at_the_beginning : undone 1 commits current ≡ record { pruned = 0; bits = [] }
at_the_beginning = refl

-- the state under a number is the current bitmap with the records past it undone
second_is_left : undone 1 (past_number 2 commits) current ≡ second
second_is_left = refl

-- the records have one entry, two and one
entries_by_number : costs commits ≡ (1, 1) ∷ (2, 2) ∷ (3, 1) ∷ []
entries_by_number = refl

kept_second : kept_under history 2 ≡ Some second
kept_second = refl

not_kept : kept_under history 4 ≡ None
not_kept = refl

not_kept_below : kept_under history 0 ≡ None
not_kept_below = refl

last_number : latest commits ≡ Some 3
last_number = refl

first_number : earliest commits ≡ Some 1
first_number = refl

no_last_number : latest {X = ReverseRecord} [] ≡ None
no_last_number = refl

no_first_number : earliest {X = ReverseRecord} [] ≡ None
no_first_number = refl

-- the numbers 2, 4 and 9, and those of them from 4 on, up to 4 and past 4
abbrev numbered : List (ℕ × Bool)
numbered = (2, true) ∷ (4, false) ∷ (9, true) ∷ []

from_four : from_number 4 numbered ≡ (4, false) ∷ (9, true) ∷ []
from_four = refl

up_to_four : up_to_number 4 numbered ≡ (2, true) ∷ (4, false) ∷ []
up_to_four = refl

past_four : past_number 4 numbered ≡ (9, true) ∷ []
past_four = refl

-- with the first commit dropped, the other states are unchanged
dropped : snapshots 1 (from_number 2 commits) current ≡ (2, second) ∷ (3, current) ∷ []
dropped = refl

-- after a rewind to the second commit, the states up to it are unchanged
rewound_to : snapshots 1 (up_to_number 2 commits) (undone 1 (past_number 2 commits) current) ≡ (1, first) ∷ (2, second) ∷ []
rewound_to = refl

-- the bitmap that the second commit left, and the length and pruned count that the first and the second left
left_by_second : left_by 1 2 commits current ≡ second
left_by_second = refl

left_by_first : IsLeftBy 1 1 commits current 8 0
left_by_first = record { width = record { positive = omega arith; fits = omega arith }; len_is = refl; pruned_is = refl; within = omega arith }

left_by_number_two : IsLeftBy 1 2 commits current 16 1
left_by_number_two = record { width = record { positive = omega arith; fits = omega arith }; len_is = refl; pruned_is = refl; within = omega arith }

-- the second record is the first to keep a byte of chunk 0, and the third to keep one of chunk 1; none keeps one of chunk 2
first_byte : first_kept commits 0 ≡ Some (255 ∷ [])
first_byte = refl

second_byte : first_kept commits 1 ≡ Some (15 ∷ [])
second_byte = refl

no_third_byte : first_kept commits 2 ≡ None
no_third_byte = refl

-- of two records that keep a byte, the first counts
first_of_two : first_kept ((1, record { len = 8; pruned = 0; entries = (0, Removed (7 ∷ [])) ∷ [] }) ∷ (2, record { len = 8; pruned = 0; entries = (0, Removed (9 ∷ [])) ∷ [] }) ∷ []) 0 ≡ Some (7 ∷ [])
first_of_two = refl

-- numbers ascend if each is greater than the one before it
numbers_rise : RiseInNumber numbered
unfolding IsStrictlySortedBy
numbers_rise = ((refl, (refl, tt)), ((refl, tt), (tt, tt)))

twice_is_no_rise : RiseInNumber ((4, true) ∷ (4, false) ∷ []) → ⊥
unfolding IsStrictlySortedBy
twice_is_no_rise rise = absurd cc

-- the entries of a record ascend by chunk
entries_rise : EntriesRise commits
unfolding IsStrictlySortedBy
entries_rise = λ k d h. elim (cases_eq k 0) [
  | inl a ↦ rw a (tt, tt)
  | inr b ↦ elim (cases_eq k 1) [ inl a ↦ rw a ((refl, tt), (tt, tt)) | inr c ↦ let e : k ≡ 2 = omega (arith, h, b, c) in rw e (tt, tt) ]
]

falling_entries_do_not : EntriesRise ((1, record { len = 8; pruned = 0; entries = (1, Added) ∷ (0, Removed (7 ∷ [])) ∷ [] }) ∷ []) → ⊥
unfolding IsStrictlySortedBy
falling_entries_do_not rise = let first = (rise 0 (1, record { len = 0; pruned = 0; entries = [] }) (omega arith)).0.0 in absurd cc

-- the last number is at least each, and below the reserved one
up_to_last : AreUpTo (2 ∷ 4 ∷ []) (Some 4)
up_to_last = (omega arith, λ k d h. elim (cases_eq k 0) [ inl a ↦ rw a omega arith | inr b ↦ let e : k ≡ 1 = omega (arith, h, b) in rw e omega arith ])

up_to_greatest : AreUpTo [] (Some (2 ^ 64 - 2))
up_to_greatest = (omega arith, λ k d h. absurd (omega (arith, h)))

not_up_to_reserved : AreUpTo [] (Some (2 ^ 64 - 1)) → ⊥
not_up_to_reserved are = omega (arith, are.0)

not_up_to_less : AreUpTo (2 ∷ 4 ∷ []) (Some 3) → ⊥
not_up_to_less are = omega (arith, are.1 1 0 (omega arith))

no_numbers : AreUpTo [] None
no_numbers = refl

numbers_want_a_last : AreUpTo (2 ∷ []) None → ⊥
numbers_want_a_last are = absurd cc
