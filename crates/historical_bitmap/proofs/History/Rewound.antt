-- A rewind in place: the old bytes gathered from the later records, written over the current bitmap, give the bitmap at a past commit.
use Rattle.std.proofs.Common.{◌≡◌, ℕ, ◌+◌, ◌-◌, ◌*◌, ◌/◌, ◌%◌, ◌<◌, ◌≤◌, List, [], ◌∷◌, ◌++◌, length, replicate, refl, ap, arith, subst, sym, ◌∙◌}
use mathlib.Core.Logic.{inl, inr}
use Rattle.std.proofs.lemmas.Bool.{cases_eq, cases_lt, eq-eqb, ne_eqb, le-leb, lt-leb, lt-ltb, le-ltb}
use Rattle.std.proofs.lemmas.List.{length-replicate}
use Rattle.std.proofs.lemmas.List.Elements.{All-pop}
use Rattle.std.proofs.lemmas.Map.Keys.{sorted_head, sorted_tail}
use Rattle.std.specs.Int.{div_ceil}
use Rattle.std.specs.List.Sorted.{IsStrictlySortedBy}
use Rattle.std.specs.Map.{keys_of, lookup}
use Rattle.std.specs.Option.{option_or}
use Rattle.std.specs.Ordering.{nat_cmp}
use Rattle.std.specs.Set.{is_member}
use Rattle.std.specs.Prelude.{Bool, true, false, cond, ◌&&◌, Option, Some, None, MatchOption, nat_eq, nat_le, nat_lt}
use Rattle.bitmap_bytes.specs.Chunk.{chunk_bit}
use Rattle.bitmap_core.specs.PrunedBits.{PrunedBits, bit_at, bit_len, extended, IsRetained, IsRetainedChunk, truncated, unpruned, with_chunk}
use Rattle.bitmap_core.proofs.Pruned.Edits.{bit_extended, bit_truncated, len_appended, len_truncated, len_unpruned}
use Rattle.bitmap_core.proofs.Pruned.Positions.{bit_from_bits, ceil_above_index, index_below_ceil, place, same_bitmap}
use Rattle.chunk_map.specs.Entries.{Puts}
use Rattle.historical_bitmap.specs.History.{AllCanUndo, EntriesRise, first_kept, IsLeftBy, left_by, past_number, undone}
use Rattle.historical_bitmap.specs.Record.{ChunkDiff, ReverseRecord, bit_or_else, bytes_of, kept, kept_bytes}
use Rattle.historical_bitmap.specs.Rewind.{gathered, Gathers, HasExtent, IsWrittenBack}
use Rattle.historical_bitmap.proofs.History.InPlace.{found_in_place, IsFoundIn}
use Rattle.historical_bitmap.proofs.Lists.Members.{not_key}
use Rattle.historical_bitmap.proofs.Records.Restores.{has_chunk}
use Rattle.historical_bitmap.proofs.Records.UndoneInSteps.{bit_beyond_front, none_past, put_one_len, same_from}

-- ---- old bytes are gathered
pub or_none : {X : Type 0} (o : Option X) → option_or o None ≡ o
or_none None = refl
or_none (Some x) = refl

pub or_assoc : {X : Type 0} (a b c : Option X) → option_or a (option_or b c) ≡ option_or (option_or a b) c
or_assoc None b c = refl
or_assoc (Some x) b c = refl

chosen_twice : (t : Bool) (rest here now : Option (List ℕ)) → cond t (option_or rest (cond t (option_or here now) now)) (cond t (option_or here now) now) ≡ cond t (option_or (option_or rest here) now) now
chosen_twice true rest here now = or_assoc rest here now
chosen_twice false rest here now = refl

chosen_none : (t : Bool) (now : Option (List ℕ)) → cond t (option_or None now) now ≡ now
chosen_none true now = refl
chosen_none false now = refl

-- the loop invariant: the bytes that are left to be found, put over those of now, give all bytes put over those of old
abbrev pub GathersOn : (ℕ → Option (List ℕ)) → (ℕ → Option (List ℕ)) → ℕ → ℕ → List (ℕ × List ℕ) → List (ℕ × List ℕ) → Type 0
GathersOn left all first end old now = (i : ℕ) → gathered first end i (left i) (lookup (nat_eq i) now) ≡ gathered first end i (all i) (lookup (nat_eq i) old)

gathers_more : (left rest here all : ℕ → Option (List ℕ)) (first end : ℕ) (old now next : List (ℕ × List ℕ)) → ((i : ℕ) → left i ≡ option_or (rest i) (here i)) → Gathers here first end now next
    → GathersOn left all first end old now → GathersOn rest all first end old next
gathers_more left rest here all first end old now next split step on i =
    ap (λ o. gathered first end i (rest i) o) (step i)
    ∙ (chosen_twice (nat_le first i && nat_lt i end) (rest i) (here i) (lookup (nat_eq i) now)
    ∙ (ap (λ o. gathered first end i o (lookup (nat_eq i) now)) (sym (split i)) ∙ on i))

gathers_all : (left all : ℕ → Option (List ℕ)) (first end : ℕ) (old now : List (ℕ × List ℕ)) → ((i : ℕ) → left i ≡ None) → GathersOn left all first end old now → Gathers all first end old now
gathers_all left all first end old now none on i =
    sym (ap (λ o. gathered first end i o (lookup (nat_eq i) now)) (none i) ∙ chosen_none (nat_le first i && nat_lt i end) (lookup (nat_eq i) now)) ∙ on i

-- the old bytes in an entry are inserted
pub entry_inserted : (first end chunk : ℕ) (diff : ChunkDiff) (bytes : List ℕ) (old new : List (ℕ × List ℕ)) → first ≤ chunk → chunk < end → kept_bytes diff ≡ Some bytes → Puts old new chunk (Some bytes)
    → Gathers (λ i. bytes_of (lookup (nat_eq i) ((chunk, diff) ∷ []))) first end old new
entry_inserted first end chunk diff bytes old new low high keeps put i = elim (cases_eq i chunk) [
  | inl e ↦ rw (eq-eqb i chunk e, le-leb first i (omega (arith, e, low)), lt-ltb i end (omega (arith, e, high)), keeps) (rw (eq-eqb i chunk e) at (put i))
  | inr ne ↦
      let same = rw (ne_eqb i chunk ne) at (put i) in
      rw (ne_eqb i chunk ne) (same ∙ sym (chosen_none (nat_le first i && nat_lt i end) (lookup (nat_eq i) old)))
]

-- ---- the entries of a record, visited one after the other
pub record EntriesLeft (left all : List (ℕ × ChunkDiff)) (first end : ℕ) (old now : List (ℕ × List ℕ)) : Type 0 where
  pub on : GathersOn (λ i. bytes_of (lookup (nat_eq i) left)) (λ i. bytes_of (lookup (nat_eq i) all)) first end old now
  pub sorted : IsStrictlySortedBy nat_cmp (keys_of left)

entry_split : (x : ℕ × ChunkDiff) (rest : List (ℕ × ChunkDiff)) (i : ℕ) → IsStrictlySortedBy nat_cmp (keys_of (x ∷ rest))
    → bytes_of (lookup (nat_eq i) (x ∷ rest)) ≡ option_or (bytes_of (lookup (nat_eq i) rest)) (bytes_of (lookup (nat_eq i) (x ∷ [])))
entry_split x rest i up = elim (cases_eq i x.0) [
  | inl e ↦ rw (eq-eqb i x.0 e, none_past i x.0 rest (omega (arith, e)) (sorted_head nat_cmp x.0 (keys_of rest) up)) refl
  | inr ne ↦ rw (ne_eqb i x.0 ne) (sym (or_none (bytes_of (lookup (nat_eq i) rest))))
]

pub entry_gathered : (x : ℕ × ChunkDiff) (left rest all : List (ℕ × ChunkDiff)) (first end : ℕ) (old now next : List (ℕ × List ℕ)) → left ≡ x ∷ rest
    → Gathers (λ i. bytes_of (lookup (nat_eq i) (x ∷ []))) first end now next → EntriesLeft left all first end old now → EntriesLeft rest all first end old next
entry_gathered x left rest all first end old now next e step before =
    let up = rw e at before.sorted in
    record {
      on = gathers_more (λ i. bytes_of (lookup (nat_eq i) left)) (λ i. bytes_of (lookup (nat_eq i) rest)) (λ i. bytes_of (lookup (nat_eq i) (x ∷ []))) (λ i. bytes_of (lookup (nat_eq i) all)) first end old now next
          (λ i. ap (λ es. bytes_of (lookup (nat_eq i) es)) e ∙ entry_split x rest i up) step before.on;
      sorted = sorted_tail nat_cmp x.0 (keys_of rest) up;
    }

pub entries_gathered : (left all : List (ℕ × ChunkDiff)) (first end : ℕ) (old now : List (ℕ × List ℕ)) → left ≡ [] → EntriesLeft left all first end old now
    → Gathers (λ i. bytes_of (lookup (nat_eq i) all)) first end old now
entries_gathered left all first end old now e before =
    gathers_all (λ i. bytes_of (lookup (nat_eq i) left)) (λ i. bytes_of (lookup (nat_eq i) all)) first end old now (λ i. ap (λ es. bytes_of (lookup (nat_eq i) es)) e) before.on

-- ---- the records past a number, visited newest first
pub record RecordsLeft (left all : List (ℕ × ReverseRecord)) (first end : ℕ) (now : List (ℕ × List ℕ)) : Type 0 where
  pub on : GathersOn (first_kept left) (first_kept all) first end [] now
  pub rise : EntriesRise left

pub records_all : (left all : List (ℕ × ReverseRecord)) (first end : ℕ) (now : List (ℕ × List ℕ)) → left ≡ all → now ≡ [] → EntriesRise all → RecordsLeft left all first end now
records_all left all first end now e none rise = rw (e, none) (record { on = λ i. refl; rise = rise })

record_split : (rest : List (ℕ × ReverseRecord)) (c : ℕ × ReverseRecord) (i : ℕ) → first_kept (rest ++ c ∷ []) i ≡ option_or (first_kept rest i) (kept c.1 i)
record_split [] c i = or_none (kept c.1 i)
record_split (d ∷ rest) c i = ap (option_or (kept d.1 i)) (record_split rest c i) ∙ or_assoc (kept d.1 i) (first_kept rest i) (kept c.1 i)

pub last_rises : (c : ℕ × ReverseRecord) (left rest all : List (ℕ × ReverseRecord)) (first end : ℕ) (now : List (ℕ × List ℕ)) → left ≡ rest ++ c ∷ [] → RecordsLeft left all first end now
    → IsStrictlySortedBy nat_cmp (keys_of c.1.entries)
last_rises c left rest all first end now e before = (All-pop (λ commit. IsStrictlySortedBy nat_cmp (keys_of commit.1.entries)) left rest (Some c) e before.rise).1

pub record_gathered : (c : ℕ × ReverseRecord) (entries : List (ℕ × ChunkDiff)) (left rest all : List (ℕ × ReverseRecord)) (first end : ℕ) (now next : List (ℕ × List ℕ)) → left ≡ rest ++ c ∷ []
    → entries ≡ c.1.entries → Gathers (λ i. bytes_of (lookup (nat_eq i) entries)) first end now next → RecordsLeft left all first end now → RecordsLeft rest all first end next
record_gathered c entries left rest all first end now next e same step before = record {
  on = gathers_more (first_kept left) (first_kept rest) (kept c.1) (first_kept all) first end [] now next
      (λ i. ap (λ cs. first_kept cs i) e ∙ record_split rest c i) (subst (λ es. Gathers (λ i. bytes_of (lookup (nat_eq i) es)) first end now next) same step) before.on;
  rise = (All-pop (λ commit. IsStrictlySortedBy nat_cmp (keys_of commit.1.entries)) left rest (Some c) e before.rise).0;
}

pub records_gathered : (left all : List (ℕ × ReverseRecord)) (first end : ℕ) (now : List (ℕ × List ℕ)) → left ≡ [] → RecordsLeft left all first end now → Gathers (first_kept all) first end [] now
records_gathered left all first end now e before = gathers_all (first_kept left) (first_kept all) first end [] now (λ i. ap (λ cs. first_kept cs i) e) before.on

-- ---- the extent is restored
module _ (n : ℕ) (b : PrunedBits) (chunks : List (List ℕ)) (len : ℕ) (pos : 0 < n) (fits : length chunks ≤ b.pruned) (within : 8 * n * (b.pruned - length chunks) ≤ len) where
  whole : PrunedBits
  whole = unpruned n (extended n b len) chunks

  pub whole_fits : len ≤ bit_len n (unpruned n (extended n b len) chunks)
  whole_fits = omega (arith, len_unpruned n (extended n b len) chunks pos fits, len_appended n b (replicate (len - bit_len n b) false), length-replicate {A = Bool} (len - bit_len n b) false)

  pub extent_restored : HasExtent n b (b.pruned - length chunks) len (truncated n (unpruned n (extended n b len) chunks) len)
  extent_restored = record {
    pruned_is = refl;
    len_is = len_truncated n (unpruned n (extended n b len) chunks) len within whole_fits;
    bits = λ k has there.
        let inside : k < len = omega (arith, there.1, len_truncated n (unpruned n (extended n b len) chunks) len within whole_fits) in
        bit_truncated n (unpruned n (extended n b len) chunks) len k there.0
        ∙ (rw (lt-ltb k len inside) (bit_beyond_front n (extended n b len) chunks pos fits k has.0 ∙ bit_extended n b len k));
  }

-- ---- bytes are written back
pub chunk_written : (n : ℕ) (b : PrunedBits) (i : ℕ) (bytes new : List ℕ) → 0 < n
    → ((k : ℕ) → chunk_bit n new k ≡ cond (nat_lt (k % (8 * n)) (bit_len n b - 8 * n * i)) (chunk_bit n bytes k) false)
    → IsWrittenBack n b ((i, bytes) ∷ []) (with_chunk n b i new)
chunk_written n b i bytes new pos cut = record {
  pruned = refl;
  len = put_one_len n b i (Some new);
  bits = λ k has.
      bit_from_bits n b.pruned (bit_len n b) (λ k. cond (nat_eq (k / (8 * n)) i) (chunk_bit n new k) (bit_at n b k)) k has.0 has.1
      ∙ elim (cases_eq (k / (8 * n)) i) [
        | inl e ↦
            let at : 8 * n * i + k % (8 * n) ≡ k = ap (λ y. 8 * n * y + k % (8 * n)) (sym e) ∙ place (8 * n) k in
            rw (eq-eqb (k / (8 * n)) i e) (cut k ∙ rw (lt-ltb (k % (8 * n)) (bit_len n b - 8 * n * i) (omega (arith, at, has.1))) refl)
        | inr ne ↦ rw (ne_eqb (k / (8 * n)) i ne) refl
      ];
}

-- what is under an index, if that is one of those that are left
abbrev pub under_left : List ℕ → List (ℕ × List ℕ) → ℕ → Option (List ℕ)
under_left left all i = cond (is_member nat_eq left i) (lookup (nat_eq i) all) None

-- the loop invariant: the chunks whose indices are left, written over now, give all chunks written over old
pub record WritesOn (n : ℕ) (old : PrunedBits) (all : List (ℕ × List ℕ)) (left : List ℕ) (now : PrunedBits) : Type 0 where
  pub pruned : now.pruned ≡ old.pruned
  pub len : bit_len n now ≡ bit_len n old
  pub bits : (k : ℕ) → IsRetained n old k → bit_or_else n (under_left left all (k / (8 * n))) now k ≡ bit_or_else n (lookup (nat_eq (k / (8 * n))) all) old k

module _ (n : ℕ) (old : PrunedBits) (all : List (ℕ × List ℕ)) where
  -- before the first chunk is written, the indices of all entries are left
  pub none_put : (left : List ℕ) → ((i : ℕ) → is_member nat_eq left i ≡ is_member nat_eq (keys_of all) i) → WritesOn n old all left old
  none_put left same = record {
    pruned = refl;
    len = refl;
    bits = λ k has. ap (λ o. bit_or_else n o old k) (whole (k / (8 * n)) (is_member nat_eq left (k / (8 * n))) refl);
  }
    where
      whole : (i : ℕ) (t : Bool) → is_member nat_eq left i ≡ t → under_left left all i ≡ lookup (nat_eq i) all
      whole i true e = ap (λ t. cond t (lookup (nat_eq i) all) None) e
      whole i false e = ap (λ t. cond t (lookup (nat_eq i) all) None) e ∙ sym (not_key i all (sym (same i) ∙ e))

  module _ (i : ℕ) (bytes : List ℕ) (found : lookup (nat_eq i) all ≡ Some bytes) where
    -- a chunk that is found is retained
    pub found_retained : (left : List ℕ) (now : PrunedBits) → ((q : ℕ) → MatchOption (lookup (nat_eq q) all) (Unit {0}) (λ bytes. IsRetainedChunk n old q)) → WritesOn n old all left now → IsRetainedChunk n now i
    found_retained left now retained before =
        let there : IsRetainedChunk n old i = subst (λ o. MatchOption o (Unit {0}) (λ bytes. IsRetainedChunk n old i)) found (retained i) in
        (omega (arith, there.0, before.pruned), omega (arith, there.1, before.len))

    pub chunk_put : (left rest : List ℕ) (now next : PrunedBits) → left ≡ i ∷ rest → IsWrittenBack n now ((i, bytes) ∷ []) next → WritesOn n old all left now → WritesOn n old all rest next
    chunk_put left rest now next steps step before = record {
      pruned = step.pruned ∙ before.pruned;
      len = step.len ∙ before.len;
      bits = λ k has. one k (rw before.pruned has.0, rw before.len has.1) ∙ (ap (λ is. bit_or_else n (under_left is all (k / (8 * n))) now k) (sym steps) ∙ before.bits k has);
    }
      where
        written : (t : Bool) (k : ℕ) → bit_at n next k ≡ chunk_bit n bytes k → bit_or_else n (cond t (Some bytes) None) next k ≡ chunk_bit n bytes k
        written true k e = refl
        written false k e = e

        one : (k : ℕ) → IsRetained n now k → bit_or_else n (under_left rest all (k / (8 * n))) next k ≡ bit_or_else n (under_left (i ∷ rest) all (k / (8 * n))) now k
        one k has = elim (cases_eq (k / (8 * n)) i) [
          | inl same ↦
              let here = rw (eq-eqb (k / (8 * n)) i same) at (step.bits k has) in
              let under : lookup (nat_eq (k / (8 * n))) all ≡ Some bytes = ap (λ q. lookup (nat_eq q) all) same ∙ found in
              rw (eq-eqb (k / (8 * n)) i same, under) (written (is_member nat_eq rest (k / (8 * n))) k here)
          | inr ne ↦
              let here = rw (ne_eqb (k / (8 * n)) i ne) at (step.bits k has) in
              rw (ne_eqb (k / (8 * n)) i ne) (same_from n (under_left rest all (k / (8 * n))) next now k here)
        ]

  pub all_put : (left : List ℕ) (now : PrunedBits) → left ≡ [] → WritesOn n old all left now → IsWrittenBack n old all now
  all_put left now e before = record {
    pruned = before.pruned;
    len = before.len;
    bits = λ k has. ap (λ is. bit_or_else n (under_left is all (k / (8 * n))) now k) (sym e) ∙ before.bits k has;
  }

-- ---- the bitmap at a past commit
-- it has at most as many pruned chunks as the current bitmap
pub undone_pruned : (n : ℕ) (cs : List (ℕ × ReverseRecord)) (b : PrunedBits) → AllCanUndo n cs b → (undone n cs b).pruned ≤ b.pruned
undone_pruned n [] b all = omega arith
undone_pruned n (c ∷ cs) b all = omega (arith, all.0.rises, undone_pruned n cs b all.1)

module _ (n number : ℕ) (commits : List (ℕ × ReverseRecord)) (current : PrunedBits) (len pruned : ℕ)
    (all : AllCanUndo n (past_number number commits) current) (is : IsLeftBy n number commits current len pruned) where
  pub pruned_below : pruned ≤ current.pruned
  pruned_below = omega (arith, is.pruned_is, undone_pruned n (past_number number commits) current all)

  module _ (chunks : List (ℕ × List ℕ)) (sized : PrunedBits) (gathers : Gathers (first_kept (past_number number commits)) pruned (div_ceil len (8 * n)) [] chunks) (extent : HasExtent n current pruned len sized) where
    in_range : (i : ℕ) → pruned ≤ i → i < div_ceil len (8 * n) → lookup (nat_eq i) chunks ≡ first_kept (past_number number commits) i
    in_range i low high = gathers i ∙ rw (le-leb pruned i low, lt-ltb i (div_ceil len (8 * n)) high) (or_none (first_kept (past_number number commits) i))

    -- each chunk that was gathered is retained
    pub gathered_retained : (i : ℕ) → MatchOption (lookup (nat_eq i) chunks) (Unit {0}) (λ bytes. IsRetainedChunk n sized i)
    gathered_retained i = elim (cases_lt i pruned) [
      | inl l ↦ let none : lookup (nat_eq i) chunks ≡ None = gathers i ∙ rw (lt-leb pruned i l) refl in rw none tt
      | inr l ↦ elim (cases_lt i (div_ceil len (8 * n))) [
        | inl h ↦ any (lookup (nat_eq i) chunks) (omega (arith, l, extent.pruned_is), omega (arith, index_below_ceil n len i is.width.positive h, extent.len_is))
        | inr h ↦ let none : lookup (nat_eq i) chunks ≡ None = gathers i ∙ rw (le-leb pruned i l, le-ltb i (div_ceil len (8 * n)) h) refl in rw none tt
      ]
    ]
      where
        any : (o : Option (List ℕ)) → IsRetainedChunk n sized i → MatchOption o (Unit {0}) (λ bytes. IsRetainedChunk n sized i)
        any None there = tt
        any (Some bytes) there = there

    -- the bitmap with these chunks written back is the past one
    pub rewound_is : (new : PrunedBits) → IsWrittenBack n sized chunks new → new ≡ left_by n number commits current
    rewound_is new written = same_bitmap n new (left_by n number commits current) (written.pruned ∙ (extent.pruned_is ∙ sym is.pruned_is)) (written.len ∙ (extent.len_is ∙ sym is.len_is)) (λ k has.
        let there : IsRetained n sized k = (rw (extent.pruned_is ∙ sym is.pruned_is) has.0, rw (extent.len_is ∙ sym is.len_is) has.1) in
        let chunk : IsRetainedChunk n sized (k / (8 * n)) = has_chunk n sized k is.width.positive there in
        let found = in_range (k / (8 * n)) (omega (arith, chunk.0, extent.pruned_is)) (ceil_above_index n len (k / (8 * n)) is.width.positive (omega (arith, chunk.1, extent.len_is))) in
        written.bits k there
        ∙ (ap (λ o. bit_or_else n o sized k) found
        ∙ by_found k there (first_kept (past_number number commits) (k / (8 * n))) (found_in_place n (past_number number commits) current k all has)))
      where
        by_found : (k : ℕ) → IsRetained n sized k → (o : Option (List ℕ)) → IsFoundIn n o current k (left_by n number commits current) → bit_or_else n o sized k ≡ bit_at n (left_by n number commits current) k
        by_found k there None found = extent.bits k found.0 there ∙ found.1
        by_found k there (Some bytes) found = found
