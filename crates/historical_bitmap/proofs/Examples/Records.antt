-- Whether a record rebuilds the older bitmap, and whether it can be undone in steps. Each chunk has one byte.
use Rattle.std.specs.Prelude.{◌≡◌, ℕ, ◌/◌, ◌<◌, ◌≤◌, None, Some, true, false, List, [], ◌∷◌, MatchOption, is_some, replicate}
use Rattle.std.specs.List.Sorted.{IsStrictlySortedBy}
use Rattle.std.specs.Ordering.{nat_cmp}
use Rattle.std.proofs.Common.{refl, ap, arith, get_or, subst, sym}
use mathlib.Core.Bool.{false≢true}
use Rattle.std.proofs.lemmas.Bool.{cases_eq, ne_eqb}
use mathlib.Core.Logic.{inl, inr, ◌⊎◌}
use Rattle.bitmap_bytes.specs.Chunk.{chunk_bit}
use Rattle.bitmap_core.specs.PrunedBits.{PrunedBits, IsRetainedChunk, chunk}
use Rattle.historical_bitmap.specs.Record.{ReverseRecord, kept, IsUnchanged, LeadsBack}
use Rattle.historical_bitmap.specs.Record.ChunkDiff.{Modified, Removed, Added, Pruned}
use Rattle.historical_bitmap.specs.History.{AllCanUndo, AreKept}
use Rattle.historical_bitmap.specs.Undo.{CanUndo, IsOldChunk, kept_between}
use Rattle.historical_bitmap.specs.Pending.{CanApply, IsEdited, IsRecordOf, edited_chunk, uncaptured, pending_bits}
use Rattle.historical_bitmap.proofs.Examples.Undos.{twelve, shorter, from_shorter, beyond_one, from_beyond_one, far, across_a_gap}
use Rattle.historical_bitmap.proofs.Examples.PendingBits.{base, rewritten, back}

-- the indices of the records below ascend
first_two : IsStrictlySortedBy nat_cmp (0 ∷ 1 ∷ [])
unfolding IsStrictlySortedBy
first_two = ((refl, tt), (tt, tt))

first_three : IsStrictlySortedBy nat_cmp (0 ∷ 1 ∷ 2 ∷ [])
unfolding IsStrictlySortedBy
first_three = ((refl, (refl, tt)), ((refl, tt), (tt, tt)))

-- ---- a record that can be undone in steps
-- the byte 0F of chunk 1 has no bit from position 12 on
clear_past_twelve : (k : ℕ) → k / 8 ≡ 1 → 12 ≤ k → chunk_bit 1 (15 ∷ []) k ≡ false
clear_past_twelve k e past = elim (four k e past) [
  | inl a ↦ subst (λ j. chunk_bit 1 (15 ∷ []) j ≡ false) (sym a) refl
  | inr (inl a) ↦ subst (λ j. chunk_bit 1 (15 ∷ []) j ≡ false) (sym a) refl
  | inr (inr (inl a)) ↦ subst (λ j. chunk_bit 1 (15 ∷ []) j ≡ false) (sym a) refl
  | inr (inr (inr a)) ↦ subst (λ j. chunk_bit 1 (15 ∷ []) j ≡ false) (sym a) refl
]
  where
    four : (k : ℕ) → k / 8 ≡ 1 → 12 ≤ k → (k ≡ 12) ⊎ ((k ≡ 13) ⊎ ((k ≡ 14) ⊎ (k ≡ 15)))
    four k e past = elim (cases_eq k 12) [
      | inl a ↦ inl a
      | inr b ↦ elim (cases_eq k 13) [
        | inl a ↦ inr (inl a)
        | inr d ↦ elim (cases_eq k 14) [ inl a ↦ inr (inr (inl a)) | inr f ↦ inr (inr (inr (omega (arith, e, past, b, d, f)))) ]
      ]
    ]

-- chunk 0 cut to three bits, and chunk 1 cut off: both are restored
shorter_can : CanUndo 1 from_shorter shorter
shorter_can = record {
  rises = omega arith;
  fits = omega arith;
  pruned = λ i low high start. absurd (omega (arith, low, high));
  others = λ i low. other i;
  unkept = λ k low high none. absurd (none_unkept k high none);
  unnamed = λ k has none. (omega arith, omega (arith, has.1));
  sorted = first_two;
}
  where
    none_unkept : (k : ℕ) → k < 12 → kept from_shorter (k / 8) ≡ None → ⊥
    none_unkept k high none = elim (cases_eq (k / 8) 0) [
      | inl a ↦ let e = rw a at none in cc
      | inr b ↦ let second : k / 8 ≡ 1 = omega (arith, high, b) in let e = rw second at none in cc
    ]

    other : (i : ℕ) → MatchOption (kept from_shorter i) (Unit {0}) (IsOldChunk 1 12 i)
    other i = elim (cases_eq i 0) [
      | inl a ↦ subst (λ j. MatchOption (kept from_shorter j) (Unit {0}) (IsOldChunk 1 12 j)) (sym a) (record { high = omega arith; clear = λ k e past. absurd (omega (arith, e, past)) })
      | inr b ↦ elim (cases_eq i 1) [
        | inl a ↦ subst (λ j. MatchOption (kept from_shorter j) (Unit {0}) (IsOldChunk 1 12 j)) (sym a) (record { high = omega arith; clear = clear_past_twelve })
        | inr d ↦ rw (ne_eqb i 0 b, ne_eqb i 1 d) tt
      ]
    ]

-- a record that does not keep the bytes of a pruned chunk cannot be undone
forgotten_cannot : CanUndo 1 (record { len = 12; pruned = 0; entries = [] }) beyond_one → ⊥
forgotten_cannot can = absurd (false≢true (can.pruned 0 (omega arith) (omega arith) (omega arith)))

-- nor can one that keeps bytes for a chunk past the end
past_the_end_cannot : CanUndo 1 (record { len = 12; pruned = 0; entries = (2, Removed (1 ∷ [])) ∷ [] }) shorter → ⊥
past_the_end_cannot can = omega (arith, (can.others 2 (omega arith)).high)

-- nor can one whose byte for the first retained chunk has bits past the end
bits_past_the_end_cannot : CanUndo 1 (record { len = 3; pruned = 0; entries = (0, Modified (255 ∷ [])) ∷ [] }) shorter → ⊥
bits_past_the_end_cannot can = absurd (false≢true (sym ((can.others 0 (omega arith)).clear 3 refl (omega arith))))

-- nor can one that keeps nothing of a chunk that was cut off
cut_off_cannot : CanUndo 1 (record { len = 12; pruned = 0; entries = [] }) shorter → ⊥
cut_off_cannot can = omega (arith, (can.unkept 11 (omega arith) (omega arith) refl).1)

-- nor can one without an entry for a chunk that the commit added
made_unnamed_cannot : CanUndo 1 (record { len = 8; pruned = 0; entries = [] }) (record { pruned = 0; bits = replicate 16 true }) → ⊥
made_unnamed_cannot can = omega (arith, (can.unnamed 8 (omega arith, omega arith) refl).1)

-- a pruned chunk whose byte is kept is restored, and the bits of the chunk after it are unchanged
beyond_one_can : CanUndo 1 from_beyond_one beyond_one
unfolding IsStrictlySortedBy
beyond_one_can = record {
  rises = omega arith;
  fits = omega arith;
  pruned = λ i low high start. let first : i ≡ 0 = omega (arith, high) in rw first refl;
  others = λ i low. rw (ne_eqb i 0 (λ e. omega (arith, low, e))) tt;
  unkept = λ k low high none. elim (cases_eq (k / 8) 0) [ inl a ↦ let e = rw a at none in cc | inr b ↦ (omega (arith, b), omega (arith, high)) ];
  unnamed = λ k has none. (omega arith, omega (arith, has.1));
  sorted = (tt, tt);
}

-- a record can have a pruned chunk past the old length, which the commit itself added
appended_and_pruned_can : CanUndo 1 (record { len = 4; pruned = 0; entries = (0, Pruned (15 ∷ [])) ∷ (1, Pruned (255 ∷ [])) ∷ [] }) (record { pruned = 2; bits = [] })
appended_and_pruned_can = record {
  rises = omega arith;
  fits = omega arith;
  pruned = λ i low high start. elim (cases_eq i 0) [ inl a ↦ rw a refl | inr b ↦ let second : i ≡ 1 = omega (arith, high, b) in rw second refl ];
  others = λ i low. rw (ne_eqb i 0 (λ e. omega (arith, low, e)), ne_eqb i 1 (λ e. omega (arith, low, e))) tt;
  unkept = λ k low high none. let first : k / 8 ≡ 0 = omega (arith, high) in let e = rw first at none in cc;
  unnamed = λ k has none. absurd (omega (arith, has.0, has.1));
  sorted = first_two;
}

-- a record need not keep the chunks between the old length and the new bitmap, which neither has
across_a_gap_can : CanUndo 1 across_a_gap far
unfolding IsStrictlySortedBy
across_a_gap_can = record {
  rises = omega arith;
  fits = omega arith;
  pruned = λ i low high start. let first : i ≡ 0 = omega (arith, start) in rw first refl;
  others = λ i low. elim (cases_eq i 1000) [ inl a ↦ rw a tt | inr b ↦ rw (ne_eqb i 0 (λ e. omega (arith, low, e)), ne_eqb i 1000 b) tt ];
  unkept = λ k low high none. let first : k / 8 ≡ 0 = omega (arith, high) in let e = rw first at none in cc;
  unnamed = λ k has none. let last : k / 8 ≡ 1000 = omega (arith, has.0, has.1) in let e = rw last at none in cc;
  sorted = ((refl, tt), (tt, tt));
}

-- but it has to keep those before the old length
gap_forgotten_cannot : CanUndo 1 (record { len = 4; pruned = 0; entries = (1000, Added) ∷ [] }) far → ⊥
gap_forgotten_cannot can = absurd (false≢true (can.pruned 0 (omega arith) (omega arith) (omega arith)))

-- bytes cannot be written back to a chunk that starts at the length, nor if they have a bit at the length
at_the_length_is_no_chunk : IsOldChunk 1 8 1 (0 ∷ []) → ⊥
at_the_length_is_no_chunk old = omega (arith, old.high)

bit_at_the_length_is_set : IsOldChunk 1 12 1 (31 ∷ []) → ⊥
bit_at_the_length_is_set old = absurd (false≢true (sym (old.clear 12 refl (omega arith))))

-- each of two records is undone from what its commit left: the first, for eight pushed bits after eight, keeps nothing of chunk 0, which the second cuts
abbrev pushed_and_cut : List (ℕ × ReverseRecord)
pushed_and_cut =
    (1, record { len = 8; pruned = 0; entries = (1, Added) ∷ [] })
    ∷ (2, record { len = 16; pruned = 0; entries = (0, Modified (255 ∷ [])) ∷ (1, Removed (255 ∷ [])) ∷ [] })
    ∷ []

abbrev four_left : PrunedBits
four_left = record { pruned = 0; bits = replicate 4 true }

both_can : AllCanUndo 1 pushed_and_cut four_left
unfolding IsStrictlySortedBy
both_can = (pushed, (cut, tt))
  where
    pushed : CanUndo 1 (record { len = 8; pruned = 0; entries = (1, Added) ∷ [] }) (record { pruned = 0; bits = replicate 16 true })
    pushed = record {
      rises = omega arith;
      fits = omega arith;
      pruned = λ i low high start. absurd (omega (arith, low, high));
      others = λ i low. elim (cases_eq i 1) [ inl a ↦ rw a tt | inr b ↦ rw (ne_eqb i 1 b) tt ];
      unkept = λ k low high none. (omega arith, omega (arith, high));
      unnamed = λ k has none. elim (cases_eq (k / 8) 1) [ inl a ↦ let e = rw a at none in cc | inr b ↦ (omega arith, omega (arith, has.1, b)) ];
      sorted = (tt, tt);
    }

    other : (i : ℕ) → MatchOption (kept (record { len = 16; pruned = 0; entries = (0, Modified (255 ∷ [])) ∷ (1, Removed (255 ∷ [])) ∷ [] }) i) (Unit {0}) (IsOldChunk 1 16 i)
    other i = elim (cases_eq i 0) [
      | inl a ↦ rw a (record { high = omega arith; clear = λ k e past. absurd (omega (arith, e, past)) })
      | inr b ↦ elim (cases_eq i 1) [
        | inl a ↦ rw a (record { high = omega arith; clear = λ k e past. absurd (omega (arith, e, past)) })
        | inr d ↦ rw (ne_eqb i 0 b, ne_eqb i 1 d) tt
      ]
    ]

    cut : CanUndo 1 (record { len = 16; pruned = 0; entries = (0, Modified (255 ∷ [])) ∷ (1, Removed (255 ∷ [])) ∷ [] }) four_left
    cut = record {
      rises = omega arith;
      fits = omega arith;
      pruned = λ i low high start. absurd (omega (arith, low, high));
      others = λ i low. other i;
      unkept = λ k low high none. elim (cases_eq (k / 8) 0) [
        | inl a ↦ let e = rw a at none in cc
        | inr b ↦ let second : k / 8 ≡ 1 = omega (arith, high, b) in let e = rw second at none in cc
      ];
      unnamed = λ k has none. (omega arith, omega (arith, has.1));
      sorted = first_two;
    }

-- the first could not be undone from the bitmap after the second
first_of_four_cannot : AllCanUndo 1 ((1, record { len = 8; pruned = 0; entries = (1, Added) ∷ [] }) ∷ []) four_left → ⊥
first_of_four_cannot can = omega (arith, (can.0.unkept 7 (omega arith) (omega arith) refl).1)

-- nor is a second record that cannot be undone skipped
second_of_two_cannot : AllCanUndo 1 ((1, record { len = 0; pruned = 0; entries = (0, Added) ∷ [] }) ∷ (2, record { len = 12; pruned = 0; entries = [] }) ∷ []) shorter → ⊥
second_of_two_cannot can = omega (arith, (can.1.0.unkept 11 (omega arith) (omega arith) refl).1)

-- kept commits have ascending numbers, up to the last one
numbers_must_rise : AreKept 1 four_left ((2, record { len = 4; pruned = 0; entries = [] }) ∷ (2, record { len = 4; pruned = 0; entries = [] }) ∷ []) (Some 2) → ⊥
unfolding IsStrictlySortedBy
numbers_must_rise kept = let first = kept.rise.0.0 in absurd cc

number_past_the_last : AreKept 1 four_left ((2, record { len = 4; pruned = 0; entries = [] }) ∷ []) (Some 1) → ⊥
number_past_the_last kept = omega (arith, kept.numbers.1 0 0 (omega arith))

none_are_kept : AreKept 1 four_left [] None
unfolding IsStrictlySortedBy
none_are_kept = record { undo = tt; rise = tt; numbers = refl; ends = tt }

-- the last number is the latest kept one, and not a greater one
last_number_not_kept : AreKept 1 four_left ((2, record { len = 4; pruned = 0; entries = [] }) ∷ []) (Some 3) → ⊥
last_number_not_kept kept = absurd cc

-- the bytes of chunks 1 and 2, in order; an added chunk keeps none
between : kept_between 1 3 ((0, Modified (9 ∷ [])) ∷ (1, Pruned (7 ∷ [])) ∷ (2, Pruned (5 ∷ [])) ∷ (3, Added) ∷ []) ≡ (7 ∷ []) ∷ (5 ∷ []) ∷ []
between = refl

-- ---- a record that leads to the older bitmap
-- what the record has to say about chunk i
abbrev SaysOf : ℕ → Type 0
SaysOf i = MatchOption (kept from_shorter i) (IsUnchanged 1 twelve shorter i) (λ bytes. bytes ≡ chunk 1 twelve i)

shorter_leads_back : LeadsBack 1 from_shorter twelve shorter
shorter_leads_back = record { len = refl; pruned = refl; chunks = λ i h. at i h }
  where
    at : (i : ℕ) → IsRetainedChunk 1 twelve i → SaysOf i
    at i h = elim (cases_eq i 0) [
      | inl a ↦ subst SaysOf (sym a) refl
      | inr b ↦ let one : i ≡ 1 = omega (arith, b, h.1) in subst SaysOf (sym one) refl
    ]

-- a record with other old bytes does not
wrong_byte_does_not : LeadsBack 1 (record { len = 12; pruned = 0; entries = (0, Modified (254 ∷ [])) ∷ (1, Removed (15 ∷ [])) ∷ [] }) twelve shorter → ⊥
wrong_byte_does_not back = omega (arith, ap (λ bytes. get_or bytes 0 0) (back.chunks 0 (omega arith, omega arith)))

-- nor does a record that keeps nothing of a chunk that was cut
cut_must_be_kept : LeadsBack 1 (record { len = 12; pruned = 0; entries = (1, Removed (15 ∷ [])) ∷ [] }) twelve shorter → ⊥
cut_must_be_kept back = omega (arith, (back.chunks 0 (omega arith, omega arith) 5 refl (omega arith, omega arith)).0.1)

-- a chunk of one bit is unchanged if another bit is pushed after it, and then the record keeps nothing of it
abbrev one_bit : PrunedBits
one_bit = record { pruned = 0; bits = true ∷ [] }

grown_unchanged : IsUnchanged 1 one_bit (record { pruned = 0; bits = true ∷ false ∷ [] }) 0
grown_unchanged k e h = let first : k ≡ 0 = omega (arith, h.1) in ((omega arith, omega (arith, h.1)), rw first refl)

grown_leads_back : LeadsBack 1 (record { len = 1; pruned = 0; entries = [] }) one_bit (record { pruned = 0; bits = true ∷ false ∷ [] })
grown_leads_back = record { len = refl; pruned = refl; chunks = λ i h. let first : i ≡ 0 = omega (arith, h.1) in rw first grown_unchanged }

-- the chunk after a pruned one, whose byte the record keeps, is unchanged
pruned_leads_back : LeadsBack 1 (record { len = 9; pruned = 0; entries = (0, Pruned (255 ∷ [])) ∷ [] }) (record { pruned = 0; bits = replicate 9 true }) (record { pruned = 1; bits = true ∷ [] })
pruned_leads_back = record {
  len = refl;
  pruned = refl;
  chunks = λ i h. elim (cases_eq i 0) [ inl a ↦ rw a refl | inr b ↦ let second : i ≡ 1 = omega (arith, b, h.1) in rw second next ];
}
  where
    next : IsUnchanged 1 (record { pruned = 0; bits = replicate 9 true }) (record { pruned = 1; bits = true ∷ [] }) 1
    next k e h = let eighth : k ≡ 8 = omega (arith, e, h.1) in ((omega (arith, e), omega (arith, eighth)), rw eighth refl)

-- it is changed if its bit is cleared, and the next chunk is not
cleared_is_changed : IsUnchanged 1 one_bit (record { pruned = 0; bits = false ∷ [] }) 0 → ⊥
cleared_is_changed unchanged = absurd (false≢true (unchanged 0 refl (omega arith, omega arith)).1)

next_is_unchanged : IsUnchanged 1 one_bit (record { pruned = 0; bits = false ∷ [] }) 1
next_is_unchanged k e h = absurd (omega (arith, e, h.1))

-- ---- a record of pending edits: each marked chunk, with what the commit does to it
rewritten_is_reversed : IsRecordOf 1 base rewritten back
rewritten_is_reversed = record {
  len = refl;
  pruned = refl;
  sorted = first_three;
  entries = λ i. elim (cases_eq i 0) [
    | inl a ↦ rw a refl
    | inr b ↦ elim (cases_eq i 1) [
      | inl a ↦ rw a refl
      | inr d ↦ elim (cases_eq i 2) [ inl a ↦ rw a refl | inr f ↦ rw (ne_eqb i 0 b, ne_eqb i 1 d, ne_eqb i 2 f) refl ]
    ]
  ];
}

-- a record without the chunk that was cut off is not one of them
without_the_cut_chunk : IsRecordOf 1 base rewritten (record { len = 20; pruned = 0; entries = (0, Pruned (255 ∷ [])) ∷ (1, Modified (255 ∷ [])) ∷ [] }) → ⊥
without_the_cut_chunk r = absurd (false≢true (ap is_some (r.entries 2)))

-- ---- pending edits that can be applied in steps
rewritten_alone : pending_bits 1 base (uncaptured 14 1 rewritten.edited) ≡ pending_bits 1 base rewritten
rewritten_alone = refl

-- an edited chunk past the pending length cannot be applied
past_the_length_cannot : CanApply 1 base (uncaptured 14 1 ((2, 0 ∷ []) ∷ [])) → ⊥
past_the_length_cannot can = omega (arith, (can.edited 2).high)

-- nor can one that starts at the length, nor one of two bytes
at_the_length_cannot : IsEdited 1 base (uncaptured 16 0 []) 2 (0 ∷ []) → ⊥
at_the_length_cannot edited = omega (arith, edited.high)

two_bytes_cannot : IsEdited 1 base (uncaptured 16 0 []) 1 (0 ∷ 0 ∷ []) → ⊥
two_bytes_cannot edited = omega (arith, edited.size)

-- nor can more be pruned than the length
front_past_the_length_cannot : CanApply 1 base (uncaptured 3 1 []) → ⊥
front_past_the_length_cannot can = omega (arith, can.prefix)

-- nor can any edit if the bitmap is too short
too_short_cannot : CanApply 1 base (uncaptured 21 0 []) → ⊥
too_short_cannot can = omega (arith, can.long)

edited_clear : (k : ℕ) → k / 8 ≡ 1 → 14 ≤ k → chunk_bit 1 (7 ∷ []) k ≡ false
edited_clear k e past = elim (cases_eq k 14) [
  | inl a ↦ subst (λ j. chunk_bit 1 (7 ∷ []) j ≡ false) (sym a) refl
  | inr b ↦ let last : k ≡ 15 = omega (arith, e, past, b) in subst (λ j. chunk_bit 1 (7 ∷ []) j ≡ false) (sym last) refl
]

-- an edited chunk i is right
abbrev RightAt : ℕ → Type 0
RightAt i = MatchOption (edited_chunk (uncaptured 14 1 rewritten.edited) i) (Unit {0}) (IsEdited 1 base (uncaptured 14 1 rewritten.edited) i)

rewritten_can : CanApply 1 base (uncaptured 14 1 rewritten.edited)
rewritten_can = record { long = omega arith; prefix = omega arith; rises = omega arith; edited = edited }
  where
    edited : (i : ℕ) → RightAt i
    edited i = elim (cases_eq i 0) [
      | inl a ↦ subst RightAt (sym a) (record { low = omega arith; high = omega arith; size = refl; clear = λ k e past. absurd (omega (arith, e, past)) })
      | inr b ↦ elim (cases_eq i 1) [
        | inl a ↦ subst RightAt (sym a) (record { low = omega arith; high = omega arith; size = refl; clear = edited_clear })
        | inr d ↦ rw (ne_eqb i 0 b, ne_eqb i 1 d) tt
      ]
    ]
