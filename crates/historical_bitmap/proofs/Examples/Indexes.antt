-- The index of kept commits by chunk. Each chunk has one byte.
use Rattle.std.specs.Prelude.{◌≡◌, ℕ, List, [], ◌∷◌, Some, None, is_some, nat_eq, unwrap_or}
use mathlib.Core.Logic.{inl, inr}
use Rattle.std.proofs.Common.{ap, arith, get_or, refl, sym}
use Rattle.std.proofs.lemmas.Bool.{cases_eq, eq-eqb, false≢true, ne_eqb}
use Rattle.historical_bitmap.specs.History.{before_latest, kept_under}
use Rattle.historical_bitmap.specs.Index.{bytes_at, IsIndexOf, IsNextKept, kept_in}
use Rattle.historical_bitmap.specs.Record.{ReverseRecord}
use Rattle.historical_bitmap.specs.Record.ChunkDiff.{Added, Modified, Pruned, Removed}

-- a commit that changes chunk 0 and adds chunk 2
abbrev changes_and_adds : ReverseRecord
changes_and_adds = record { len = 16; pruned = 0; entries = (0, Modified (7 ∷ [])) ∷ (2, Added) ∷ [] }

-- a commit that prunes chunk 0 and removes chunk 2
abbrev prunes_and_removes : ReverseRecord
prunes_and_removes = record { len = 24; pruned = 0; entries = (0, Pruned (6 ∷ [])) ∷ (2, Removed (9 ∷ [])) ∷ [] }

-- the first is commit 2, the second commit 5
abbrev two_commits : List (ℕ × ReverseRecord)
two_commits = (2, changes_and_adds) ∷ (5, prunes_and_removes) ∷ []

-- ---- old bytes
changed : kept_in (kept_under two_commits 2) 0 ≡ Some (7 ∷ [])
changed = refl

pruned : kept_in (kept_under two_commits 5) 0 ≡ Some (6 ∷ [])
pruned = refl

removed : kept_in (kept_under two_commits 5) 2 ≡ Some (9 ∷ [])
removed = refl

-- an added chunk has no old bytes, though the record has an entry for it
added : kept_in (kept_under two_commits 2) 2 ≡ None
added = refl

-- neither has a chunk without an entry, nor a commit that is not kept
unnamed : kept_in (kept_under two_commits 2) 1 ≡ None
unnamed = refl

absent : kept_in (kept_under two_commits 3) 0 ≡ None
absent = refl

-- ---- indexes
-- the old bytes that both commits keep, by chunk and then by number
abbrev old_bytes : List (ℕ × List (ℕ × List ℕ))
old_bytes = (0, (2, 7 ∷ []) ∷ (5, 6 ∷ []) ∷ []) ∷ (2, (5, 9 ∷ []) ∷ []) ∷ []

there : bytes_at old_bytes 0 5 ≡ Some (6 ∷ [])
there = refl

-- the chunk is first, the number second
not_swapped : bytes_at old_bytes 5 0 ≡ None
not_swapped = refl

-- the last bytes of chunk 0 are not the next ones after commit 1
next_after_one : IsNextKept old_bytes 0 1 (Some (7 ∷ []))
next_after_one = (2, omega arith, refl, λ m l h. absurd (omega (arith, l, h)))

of_no_commits : IsIndexOf [] []
of_no_commits i number = refl

of_one_commit : IsIndexOf ((0, (2, 7 ∷ []) ∷ []) ∷ []) ((2, changes_and_adds) ∷ [])
of_one_commit i number = elim (cases_eq number 2) [
  | inr ne ↦ elim (cases_eq i 0) [ inl f ↦ rw (ne_eqb number 2 ne, eq-eqb i 0 f, ne_eqb number 2 ne) refl | inr g ↦ rw (ne_eqb number 2 ne, ne_eqb i 0 g) refl ]
  | inl e ↦ elim (cases_eq i 0) [
    | inl f ↦ rw (eq-eqb number 2 e, eq-eqb i 0 f, eq-eqb number 2 e) refl
    | inr g ↦ elim (cases_eq i 2) [ inl f ↦ rw (eq-eqb number 2 e, ne_eqb i 0 g, eq-eqb i 2 f) refl | inr h ↦ rw (eq-eqb number 2 e, ne_eqb i 0 g, ne_eqb i 2 h) refl ]
  ]
]

-- an index without the places of a kept commit is not that of the commits
too_small : IsIndexOf [] ((2, changes_and_adds) ∷ []) → ⊥
too_small is = false≢true (ap is_some (is 0 2))

-- nor is one with a place of a commit that is not kept, or of an added chunk
too_large : IsIndexOf ((0, (2, 7 ∷ []) ∷ []) ∷ []) [] → ⊥
too_large is = false≢true (sym (ap is_some (is 0 2)))

with_an_added_chunk : IsIndexOf ((0, (2, 7 ∷ []) ∷ []) ∷ (2, (2, 0 ∷ []) ∷ []) ∷ []) ((2, changes_and_adds) ∷ []) → ⊥
with_an_added_chunk is = false≢true (sym (ap is_some (is 2 2)))

-- nor is one with other bytes
with_other_bytes : IsIndexOf ((0, (2, 8 ∷ []) ∷ []) ∷ []) ((2, changes_and_adds) ∷ []) → ⊥
with_other_bytes is = false≢true (ap (λ o. nat_eq (get_or (unwrap_or o []) 0 0) 7) (is 0 2))

-- the latest commit left out
one_earlier : before_latest two_commits ≡ (2, changes_and_adds) ∷ []
one_earlier = refl

none_earlier : before_latest {X = ℕ × ReverseRecord} ((2, changes_and_adds) ∷ []) ≡ []
none_earlier = refl
