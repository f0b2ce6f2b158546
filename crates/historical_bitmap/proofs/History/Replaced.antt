-- A commit of a whole new bitmap, in which every chunk of the old one is pruned: its record leads back to the old bitmap, and can be undone.
use Rattle.std.proofs.Common.{◌≡◌, ℕ, zero, suc, ◌+◌, ◌-◌, ◌*◌, ◌/◌, ◌<◌, ◌≤◌, List, [], ◌∷◌, ◌++◌, length, map, refl, ap, arith, sym, ◌∙◌}
use mathlib.Core.Logic.{inl, inr}
use Rattle.std.proofs.lemmas.Bool.{cases_eq, cases_lt, eq-eqb, ne_eqb}
use Rattle.std.proofs.lemmas.List.{append-nil, append_assoc, length-map, map-append}
use Rattle.std.proofs.lemmas.List.FromFn.{length-map-range_with_len}
use Rattle.std.proofs.lemmas.Nat.{mul-le}
use Rattle.std.specs.List.{AllByRecursion, range_with_len}
use Rattle.std.specs.List.Sorted.{IsStrictlySortedBy}
use Rattle.std.specs.Map.{keys_of, lookup}
use Rattle.std.specs.Option.{option_or}
use Rattle.std.specs.Ordering.{nat_cmp}
use Rattle.std.specs.declared.cmp.Ordering.TheVariants.{Less}
use Rattle.std.specs.Prelude.{Some, None, nat_eq}
use Rattle.bitmap_bytes.proofs.Chunks.Places.{fewer_chunks, IsChunkCount-ceil}
use Rattle.bitmap_core.specs.PrunedBits.{PrunedBits, bit_len, chunk, pruned_bits}
use Rattle.bitmap_core.proofs.Pruned.Positions.{ceil_above_index}
use Rattle.historical_bitmap.specs.Changes.{chunk_total}
use Rattle.historical_bitmap.specs.Edits.{from_to}
use Rattle.historical_bitmap.specs.Record.{ChunkDiff, ReverseRecord, bytes_of, kept, LeadsBack}
use Rattle.historical_bitmap.specs.Record.ChunkDiff.{Added, Pruned}
use Rattle.historical_bitmap.specs.Replaced.{added_entries, pruned_entries, replaced_record, retained_chunks, with_entries}
use Rattle.historical_bitmap.specs.Undo.{CanUndo}
use Rattle.historical_bitmap.proofs.Changes.Patched.{run_above, run_sorted}
use Rattle.historical_bitmap.proofs.Lists.Between.{range_more}
use Rattle.historical_bitmap.proofs.Lists.Maps.{not_some}
use Rattle.historical_bitmap.proofs.Records.Restores.{has_chunk}

-- ---- entries of a range of indices
-- a look-up in two lists, one after the other
lookup_join : {X : Type 0} (i : ℕ) (es fs : List (ℕ × X)) → lookup (nat_eq i) (es ++ fs) ≡ option_or (lookup (nat_eq i) es) (lookup (nat_eq i) fs)
lookup_join i [] fs = refl
lookup_join i (e ∷ es) fs = elim (cases_eq i e.0) [
  | inl same ↦ rw (eq-eqb i e.0 same) refl
  | inr ne ↦ rw (ne_eqb i e.0 ne) (lookup_join i es fs)
]

-- an index of the range has its entry
run_has : {X : Type 0} (f : ℕ → X) (a m i : ℕ) → a ≤ i → i < a + m → lookup (nat_eq i) (map (λ j. (j, f j)) (range_with_len a m)) ≡ Some (f i)
run_has f a zero i low high = absurd (omega (arith, low, high))
run_has f a (suc m) i low high = elim (cases_eq i a) [
  | inl same ↦ rw (eq-eqb i a same) (ap (λ j. Some (f j)) (sym same))
  | inr ne ↦ rw (ne_eqb i a ne) (run_has f (a + 1) m i (omega (arith, low, ne)) (omega (arith, high)))
]

-- an index past the range has none
run_past : {X : Type 0} (f : ℕ → X) (a m i : ℕ) → a + m ≤ i → lookup (nat_eq i) (map (λ j. (j, f j)) (range_with_len a m)) ≡ None
run_past f a zero i high = refl
run_past f a (suc m) i high = rw (ne_eqb i a (λ e. absurd (omega (arith, e, high)))) (run_past f (a + 1) m i (omega (arith, high)))

-- the keys of two such ranges, one after the other
run_keys : {X : Type 0} (f : ℕ → X) (xs : List ℕ) (es : List (ℕ × X)) → keys_of (map (λ j. (j, f j)) xs ++ es) ≡ xs ++ keys_of es
run_keys f [] es = refl
run_keys f (x ∷ xs) es = ap (λ ks. x ∷ ks) (run_keys f xs es)

all_join : (P : ℕ → Type 0) (xs ys : List ℕ) → AllByRecursion P xs → AllByRecursion P ys → AllByRecursion P (xs ++ ys)
all_join P [] ys h g = g
all_join P (x ∷ xs) ys h g = (h.0, all_join P xs ys h.1 g)

runs_sorted : (a m c k : ℕ) → a + m ≤ c → IsStrictlySortedBy nat_cmp (range_with_len a m ++ range_with_len c k)
unfolding IsStrictlySortedBy
runs_sorted a zero c k h = run_sorted c k
runs_sorted a (suc m) c k h =
    (all_join (λ y. nat_cmp a y ≡ Less) (range_with_len (a + 1) m) (range_with_len c k) (run_above a (a + 1) m (omega arith)) (run_above a c k (omega (arith, h))), runs_sorted (a + 1) m c k (omega (arith, h)))

-- ---- the loops that make the record
entries_twice : (r : ReverseRecord) (xs ys : List (ℕ × ChunkDiff)) → with_entries (with_entries r xs) ys ≡ with_entries r (xs ++ ys)
entries_twice r xs ys = ap (λ es. let v : ReverseRecord = record { len = r.len; pruned = r.pruned; entries = es } in v) (append_assoc r.entries xs ys)

pub entries_more : (f : ℕ → ℕ × ChunkDiff) (from i : ℕ) (e : ℕ × ChunkDiff) (r s t : ReverseRecord) → from ≤ i → e ≡ f i → s ≡ with_entries r (map f (from_to from i)) → t ≡ with_entries s (e ∷ [])
    → t ≡ with_entries r (map f (from_to from (i + 1)))
entries_more f from i e r s t low here before step =
    let longer : map f (from_to from (i + 1)) ≡ map f (from_to from i) ++ e ∷ [] =
    ap (λ is. map f is) (range_more from i low) ∙ (map-append f (from_to from i) (i ∷ []) ∙ ap (λ x. map f (from_to from i) ++ x ∷ []) (sym here)) in
    step ∙ (ap (λ u. with_entries u (e ∷ [])) before ∙ (entries_twice r (map f (from_to from i)) (e ∷ []) ∙ ap (λ es. with_entries r es) (sym longer)))

-- a bitmap has at least as many chunks as pruned ones
pub pruned_total : (n : ℕ) (b : PrunedBits) → 0 < n → b.pruned ≤ chunk_total n b
pruned_total n b pos = fewer_chunks (8 * n) b.pruned (chunk_total n b) (bit_len n b) (omega (arith, pos)) (IsChunkCount-ceil n (bit_len n b) pos).0

-- and at most as many chunks as bits
pub total_small : (n : ℕ) (b : PrunedBits) → 0 < n → chunk_total n b ≤ bit_len n b
total_small n b pos = fewer_chunks (8 * n) (chunk_total n b) (bit_len n b) (bit_len n b) (IsChunkCount-ceil n (bit_len n b) pos).1 (omega (arith, mul-le 1 (bit_len n b) (8 * n) (bit_len n b) (omega (arith, pos)) (omega arith)))

pub retained_count : (n : ℕ) (b : PrunedBits) → length (retained_chunks n b) ≡ chunk_total n b - b.pruned
retained_count n b = sym (length-map (retained_chunks n b) (λ i. i)) ∙ length-map-range_with_len (λ i. i) b.pruned (chunk_total n b - b.pruned)

-- ---- the record
module _ (n : ℕ) (old new : PrunedBits) (pos : 0 < n) (gone : bit_len n old ≤ pruned_bits n new) where
  -- every chunk of the old bitmap is pruned in the new one
  pub total_below : chunk_total n old ≤ new.pruned
  total_below = fewer_chunks (8 * n) (chunk_total n old) new.pruned (bit_len n old) (IsChunkCount-ceil n (bit_len n old) pos).1 gone

  abbrev back : ReverseRecord
  back = replaced_record n old new

  -- the entry of a chunk that the old bitmap retains
  entry_old : (i : ℕ) → old.pruned ≤ i → 8 * n * i < bit_len n old → lookup (nat_eq i) back.entries ≡ Some (Pruned (chunk n old i))
  entry_old i low start =
      lookup_join i (pruned_entries n old) (added_entries n new)
      ∙ ap (λ o. option_or o (lookup (nat_eq i) (added_entries n new)))
      (run_has (λ j. Pruned (chunk n old j)) old.pruned (chunk_total n old - old.pruned) i low (omega (arith, low, ceil_above_index n (bit_len n old) i pos start)))

  -- a chunk that is not pruned in the new bitmap has no entry among those of the old one
  past_old : (i : ℕ) → new.pruned ≤ i → lookup (nat_eq i) back.entries ≡ lookup (nat_eq i) (added_entries n new)
  past_old i low =
      lookup_join i (pruned_entries n old) (added_entries n new)
      ∙ ap (λ o. option_or o (lookup (nat_eq i) (added_entries n new)))
      (run_past (λ j. Pruned (chunk n old j)) old.pruned (chunk_total n old - old.pruned) i (omega (arith, low, total_below, pruned_total n old pos)))

  -- the entry of a chunk that the new bitmap retains
  entry_new : (i : ℕ) → new.pruned ≤ i → 8 * n * i < bit_len n new → lookup (nat_eq i) back.entries ≡ Some Added
  entry_new i low start = past_old i low ∙ run_has (λ _. Added) new.pruned (chunk_total n new - new.pruned) i low (omega (arith, low, ceil_above_index n (bit_len n new) i pos start))

  -- the record keeps the bytes of the old chunks, and of no chunk that is not pruned in the new bitmap
  kept_old : (i : ℕ) → old.pruned ≤ i → 8 * n * i < bit_len n old → kept back i ≡ Some (chunk n old i)
  kept_old i low start = ap bytes_of (entry_old i low start)

  kept_none : (i : ℕ) → new.pruned ≤ i → kept back i ≡ None
  kept_none i low = elim (cases_lt i (chunk_total n new)) [
    | inl l ↦ ap bytes_of (past_old i low ∙ run_has (λ _. Added) new.pruned (chunk_total n new - new.pruned) i low (omega (arith, low, l)))
    | inr l ↦ ap bytes_of (past_old i low ∙ run_past (λ _. Added) new.pruned (chunk_total n new - new.pruned) i (omega (arith, l, pruned_total n new pos)))
  ]

  pub replaced_sorted : IsStrictlySortedBy nat_cmp (keys_of back.entries)
  replaced_sorted =
      rw (run_keys (λ i. Pruned (chunk n old i)) (retained_chunks n old) (added_entries n new) ∙ ap (λ ks. retained_chunks n old ++ ks) (ap keys_of (sym (append-nil (added_entries n new))) ∙ (run_keys (λ _. Added) (retained_chunks n new) [] ∙ append-nil (retained_chunks n new))))
      (runs_sorted old.pruned (chunk_total n old - old.pruned) new.pruned (chunk_total n new - new.pruned) (omega (arith, total_below, pruned_total n old pos)))

  pub replaced_leads_back : LeadsBack n back old new
  replaced_leads_back = record {
    len = refl;
    pruned = refl;
    chunks = λ i has. let k = kept_old i has.0 has.1 in rw k refl;
  }

  pub replaced_can_undo : CanUndo n back new
  replaced_can_undo = record {
    rises = omega (arith, total_below, pruned_total n old pos);
    fits = omega arith;
    pruned = λ i low high start. let k = kept_old i low start in rw k refl;
    others = λ i low. let k = kept_none i low in rw k tt;
    unkept = λ k low high none.
        let there = has_chunk n old k pos (low, high) in
        absurd (not_some (chunk n old (k / (8 * n))) (sym (kept_old (k / (8 * n)) there.0 there.1) ∙ none));
    unnamed = λ k has none.
        let there = has_chunk n new k pos has in
        absurd (not_some Added (sym (entry_new (k / (8 * n)) there.0 there.1) ∙ none));
    sorted = replaced_sorted;
  }
