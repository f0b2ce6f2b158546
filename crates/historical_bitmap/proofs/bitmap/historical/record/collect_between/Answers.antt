use Rattle.std.proofs.Common.{◌≡◌, ℕ, zero, suc, ◌<◌, ◌≤◌, ◌++◌, List, [], ◌∷◌, length, take, get_or, refl, ap, arith, sym, ◌∙◌}
use mathlib.Core.Logic.{inl, inr}
use Rattle.std.proofs.lemmas.Bool.{cases_Bool, cases_eq, cases_lt, lt-leb, le-leb, le-ltb}
use Rattle.std.proofs.lemmas.Map.Keys.{below_from_sorted, sorted_tail}
use Rattle.std.specs.Prelude.{nat_lt, option_to_list}
use Rattle.std.specs.List.Sorted.{IsStrictlySortedBy}
use Rattle.std.specs.Map.{keys_of}
use Rattle.std.specs.Ordering.{nat_cmp}
use Rattle.historical_bitmap.specs.Record.{kept_bytes}
use Rattle.historical_bitmap.specs.Stored.{diff_value, entry_values}
use Rattle.historical_bitmap.specs.Undo.{kept_between}
use Rattle.historical_bitmap.specs.declared.bitmap.historical.record.ChunkDiff.{ChunkDiff}
use Rattle.historical_bitmap.proofs.Records.EntryPasses.{key_at, keys_len}
use Rattle.historical_bitmap.proofs.bitmap.historical.record.collect_between.Goals as goal

-- entries that are all from the end on keep no bytes before it
none_past_end : {N : ℕ} (from to : ℕ) (xs : List (ℕ × ChunkDiff N)) → ((j : ℕ) → j < length xs → to ≤ get_or (keys_of (entry_values xs)) j 0) → kept_between from to (entry_values xs) ≡ []
none_past_end from to [] h = refl
none_past_end from to (x ∷ xs) h =
    let here : to ≤ x.0 = h 0 (omega arith) in
    let rest = none_past_end from to xs (λ j l. h (suc j) (omega arith)) in
    elim (cases_lt x.0 from) [
      | inl l ↦ rw (lt-leb from x.0 l) rest
      | inr l ↦ rw (le-leb from x.0 l, le-ltb x.0 to here) rest
    ]

-- the entries before the first one from the end on keep the same bytes as all
kept_before_end : {N : ℕ} (from to : ℕ) (xs : List (ℕ × ChunkDiff N)) (i : ℕ) → IsStrictlySortedBy nat_cmp (keys_of (entry_values xs)) → i < length xs → to ≤ get_or (keys_of (entry_values xs)) i 0
    → kept_between from to (entry_values (take i xs)) ≡ kept_between from to (entry_values xs)
kept_before_end from to [] i up l h = absurd (omega (arith, l))
kept_before_end from to (x ∷ xs) zero up l h =
    sym (none_past_end from to (x ∷ xs) (λ j k. elim (cases_eq j 0) [
      | inl same ↦ omega (arith, h, ap (λ m. get_or (keys_of (entry_values (x ∷ xs))) m 0) same)
      | inr ne ↦ omega (arith, h, below_from_sorted (keys_of (entry_values (x ∷ xs))) 0 j 0 up (omega arith) (omega (arith, keys_len (x ∷ xs))))
    ]))
kept_before_end from to (x ∷ xs) (suc i) up l h =
    let rest = kept_before_end from to xs i (sorted_tail nat_cmp x.0 (keys_of (entry_values xs)) up) (omega arith) h in
    elim (cases_lt x.0 from) [
      | inl m ↦ rw (lt-leb from x.0 m) rest
      | inr m ↦ elim (cases_Bool (nat_lt x.0 to)) [
        | inl t ↦ rw (le-leb from x.0 m, t) (ap (λ ys. option_to_list (kept_bytes (diff_value x.1)) ++ ys) rest)
        | inr t ↦ rw (le-leb from x.0 m, t) rest
      ]
    ]

pub returns-then-to-entry : goal.returns-then-to-entry
returns-then-to-entry g c =
    let here = key_at c.args.entries.now c.loop-entry.entry-index c.entry-item.result c.loop-entry-test.true c.entry-item.is in
    c.loop-entry.invariant ∙ ap (λ ys. c.args.chunks.now.items ++ ys) (kept_before_end c.args.from c.args.to c.args.entries.now c.loop-entry.entry-index c.requires c.loop-entry-test.true (omega (arith, here, c.if-to-entry.true)))
