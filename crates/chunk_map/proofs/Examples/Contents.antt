-- What a map of chunks contains, and the next index. Each chunk has one byte.
use Rattle.std.specs.Prelude.{◌≡◌, ℕ, ◌<◌, ◌≤◌, List, [], ◌∷◌, Some, None, nat_eq, false, is_some}
use Rattle.std.specs.Set.{is_member}
use Rattle.std.proofs.Common.{zero, suc, refl, arith, ap}
use mathlib.Core.Logic.{inl, inr}
use Rattle.std.proofs.lemmas.Bool.{cases_eq, false≢true, ne_eqb}
use Rattle.chunk_map.specs.Entries.{entries_of, IsNextMember, IsPaired, Puts}
use Rattle.chunk_map.specs.Next.{AreBelow, AreFrom, IsNextPlace}
use Rattle.chunk_map.specs.Trie.{IsAbsent, IsAt, without_place}

-- the chunk at index 5 was inserted first, the one at index 2 second
abbrev indices : List ℕ
indices = 5 ∷ 2 ∷ []

-- ---- entries
ascending : entries_of {X = List ℕ} indices ((1 ∷ []) ∷ (7 ∷ []) ∷ []) ≡ (2, 7 ∷ []) ∷ (5, 1 ∷ []) ∷ []
ascending = refl

no_chunks : entries_of {X = List ℕ} [] [] ≡ []
no_chunks = refl

-- an index that is there twice is not paired with two chunks
twice_is_not_paired : IsPaired 1 (5 ∷ 5 ∷ []) ((1 ∷ []) ∷ (7 ∷ []) ∷ []) → ⊥
twice_is_not_paired p = omega (arith, p.apart 0 1 (omega arith) (omega arith) refl)

-- a chunk is missing
too_few_chunks : IsPaired 1 indices ((1 ∷ []) ∷ []) → ⊥
too_few_chunks p = omega (arith, p.sizes)

-- ---- insertions, replacements and removals
abbrev chunk_two : List (ℕ × List ℕ)
chunk_two = (2, 7 ∷ []) ∷ []

abbrev both : List (ℕ × List ℕ)
both = (2, 7 ∷ []) ∷ (5, 1 ∷ []) ∷ []

inserted : Puts chunk_two both 5 (Some (1 ∷ []))
inserted q = elim (cases_eq q 5) [ inl e ↦ rw e refl | inr ne ↦ rw (ne_eqb q 5 ne) refl ]

removed : Puts both chunk_two 5 None
removed q = elim (cases_eq q 5) [ inl e ↦ rw e refl | inr ne ↦ rw (ne_eqb q 5 ne) refl ]

-- another chunk is gone
loses_another : Puts chunk_two ((5, 1 ∷ []) ∷ []) 5 (Some (1 ∷ [])) → ⊥
loses_another p = false≢true (ap is_some (p 2))

-- nothing was put
puts_nothing : Puts chunk_two chunk_two 5 (Some (1 ∷ [])) → ⊥
puts_nothing p = false≢true (ap is_some (p 5))

-- ---- places
at_its_place : IsAt indices 2 1
at_its_place = record { within = omega arith; is = refl }

-- the place is not the index
not_at_another : IsAt indices 2 0 → ⊥
not_at_another a = omega (arith, a.is)

past_the_end : IsAt indices 5 2 → ⊥
past_the_end a = omega (arith, a.within)

absent : IsAbsent indices 3
absent zero h e = omega (arith, e)
absent (suc zero) h e = omega (arith, e)
absent (suc (suc p)) h e = absurd (omega arith)

not_absent : IsAbsent indices 2 → ⊥
not_absent a = a 1 (omega arith) refl

-- the last one takes the place of the one that is removed
first_removed : without_place {X = ℕ} (10 ∷ 20 ∷ 30 ∷ []) 0 0 ≡ 30 ∷ 20 ∷ []
first_removed = refl

last_removed : without_place {X = ℕ} (10 ∷ 20 ∷ 30 ∷ []) 2 0 ≡ 10 ∷ 20 ∷ []
last_removed = refl

-- ---- the next index
next_is_itself : IsNextMember indices 5 (Some 5)
next_is_itself = (omega arith, refl, λ j h s. absurd (omega arith))

next_is_above : IsNextMember indices 4 (Some 5)
next_is_above = (omega arith, refl, below)
  where
    below : (j : ℕ) → 4 ≤ j → j < 5 → is_member nat_eq indices j ≡ false
    below (suc (suc (suc (suc zero)))) h s = refl
    below j h s = absurd (omega arith)

-- 2 comes before 5
greater_is_not_next : IsNextMember indices 1 (Some 5) → ⊥
greater_is_not_next n = false≢true (let e = n.2 2 (omega arith) (omega arith) in cc)

below_is_not_next : IsNextMember indices 3 (Some 2) → ⊥
below_is_not_next n = omega (arith, n.0)

not_a_member : IsNextMember indices 3 (Some 4) → ⊥
not_a_member n = false≢true (let e = n.1 in cc)

none_is_wrong : IsNextMember indices 3 None → ⊥
none_is_wrong n = false≢true (let e = n 5 (omega arith) in cc)

none_is_wrong_at_an_index : IsNextMember indices 5 None → ⊥
none_is_wrong_at_an_index n = false≢true (let e = n 5 (omega arith) in cc)

-- the same by place
place_of_five : IsNextPlace indices 3 0
place_of_five = record { within = omega arith; from_on = omega arith; least = least }
  where
    least : AreFrom indices 3 5
    least zero h s = omega arith
    least (suc zero) h s = absurd (omega (arith, s))
    least (suc (suc p)) h s = absurd (omega arith)

place_of_two : IsNextPlace indices 3 1 → ⊥
place_of_two n = omega (arith, n.from_on)

all_below_six : AreBelow indices 6
all_below_six zero h = omega arith
all_below_six (suc zero) h = omega arith
all_below_six (suc (suc p)) h = absurd (omega arith)

not_all_below_five : AreBelow indices 5 → ⊥
not_all_below_five b = omega (arith, b 0 (omega arith))
