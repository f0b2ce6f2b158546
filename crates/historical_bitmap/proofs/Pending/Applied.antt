-- The pending edits applied in steps, as a commit applies them, give the pending bitmap.
use Rattle.std.proofs.Common.{◌≡◌, ℕ, ◌-◌, ◌*◌, ◌/◌, ◌<◌, ◌≤◌, List, [], ◌∷◌, drop, refl, ap, arith, sym, ◌∙◌}
use mathlib.Core.Logic.{inl, inr}
use Rattle.std.proofs.lemmas.Bool.{cases_lt, cases_eq, eq-eqb, ne_eqb, lt-ltb, le-ltb, le-leb}
use Rattle.std.proofs.lemmas.List.{length-drop, length-take-le}
use Rattle.std.proofs.lemmas.Nat.{mul-le}
use Rattle.std.specs.Prelude.{nat_eq, nat_le}
use Rattle.std.specs.List.{filter}
use Rattle.std.specs.List.Sorted.{IsStrictlySortedBy}
use Rattle.std.specs.Ordering.{nat_cmp}
use Rattle.std.specs.Map.{lookup, keys_of}
use Rattle.bitmap_core.specs.PrunedBits.{PrunedBits, pruned_bits, bit_len, bit_at, IsRetained, pruned_to, extended, truncated}
use Rattle.bitmap_core.proofs.Pruned.Positions.{front_of, bit_from_bits, len_from_bits}
use Rattle.bitmap_core.proofs.Pruned.Edits.{bit_extended, bit_pruned}
use Rattle.historical_bitmap.specs.Record.{bit_or_else, bytes_of}
use Rattle.historical_bitmap.specs.Undo.{put_back, resized}
use Rattle.historical_bitmap.specs.Pending.{PendingEdits, CanApply, edited_chunk, pending_bit, pending_bits, edits_of, applied_in_steps}
use Rattle.historical_bitmap.proofs.Pending.Edits.{same_pending}
use Rattle.historical_bitmap.proofs.Records.UndoneInSteps.{bit_put, put_len, put_pruned, same_from, bit_resized, len_resized, pruned_resized}

keep_all : {X : Type 0} (es : List (ℕ × X)) → filter (λ e. nat_le 0 e.0) es ≡ es
keep_all [] = refl
keep_all (e ∷ es) = rw (le-leb 0 e.0 (omega arith)) (ap (λ ys. e ∷ ys) (keep_all es))

keys_edits : (es : List (ℕ × List ℕ)) → keys_of (edits_of es) ≡ keys_of es
keys_edits [] = refl
keys_edits (e ∷ es) = ap (λ ks. e.0 ∷ ks) (keys_edits es)

bytes_edits : (es : List (ℕ × List ℕ)) (i : ℕ) → bytes_of (lookup (nat_eq i) (edits_of es)) ≡ lookup (nat_eq i) es
bytes_edits [] i = refl
bytes_edits (e ∷ es) i = elim (cases_eq i e.0) [
  | inl f ↦ rw (eq-eqb i e.0 f) refl
  | inr ne ↦ rw (ne_eqb i e.0 ne) (bytes_edits es i)
]

-- after the edited chunks are written, a bit is that of its chunk if the chunk is edited
pub put_bit : (n : ℕ) (b : PrunedBits) (es : List (ℕ × List ℕ)) (k : ℕ) → IsStrictlySortedBy nat_cmp (keys_of es) → IsRetained n b k → bit_at n (put_back n b (edits_of es)) k ≡ bit_or_else n (lookup (nat_eq (k / (8 * n))) es) b k
put_bit n b es k sorted there =
    ap (λ ys. bit_at n (put_back n b ys) k) (sym (keep_all (edits_of es)))
    ∙ (bit_put n b 0 (edits_of es) k (rw (keys_edits es) sorted) there
    ∙ rw (le-leb 0 (k / (8 * n)) (omega arith), bytes_edits es (k / (8 * n))) refl)

-- the pending edits applied in steps give the pending bitmap
module _ (n : ℕ) (b : PrunedBits) (l : PendingEdits) (pos : 0 < n) (begins : 8 * n * l.pruned ≤ l.len) (rises : b.pruned ≤ l.pruned) (sorted : IsStrictlySortedBy nat_cmp (keys_of l.edited)) where
  abbrev sized : PrunedBits
  sized = resized n b l.len

  abbrev whole : PrunedBits
  whole = put_back n (resized n b l.len) (edits_of l.edited)

  prefix : pruned_bits n b ≤ l.len
  prefix = omega (arith, begins, mul-le (8 * n) b.pruned (8 * n) l.pruned (omega arith) rises)

  whole_len : bit_len n whole ≡ l.len
  whole_len = put_len n sized (edits_of l.edited) ∙ len_resized n b l.len prefix

  whole_pruned : whole.pruned ≡ b.pruned
  whole_pruned = put_pruned n sized (edits_of l.edited) ∙ pruned_resized n b l.len

  whole_bit : (k : ℕ) → pruned_bits n b ≤ k → k < l.len → bit_at n whole k ≡ pending_bit n b l k
  whole_bit k low h =
      let there : IsRetained n sized k = (rw (pruned_resized n b l.len) low, rw (len_resized n b l.len prefix) h) in
      ap (λ es. bit_at n (put_back n sized es) k) (sym (keep_all (edits_of l.edited)))
      ∙ (bit_put n sized 0 (edits_of l.edited) k (rw (keys_edits l.edited) sorted) there
      ∙ (rw (le-leb 0 (k / (8 * n)) (omega arith), bytes_edits l.edited (k / (8 * n))) (same_from n (edited_chunk l (k / (8 * n))) sized b k (bit_resized n b l.len k low h))))

  pub applied_is : applied_in_steps n b l ≡ pending_bits n b l
  applied_is = elim (cases_lt whole.pruned l.pruned) [
    | inl h ↦
        let e = front_of (8 * n) whole.pruned l.pruned (omega arith) in
        let cut : pruned_to n whole l.pruned ≡ record { pruned = l.pruned; bits = drop (8 * n * (l.pruned - whole.pruned)) whole.bits } = rw (lt-ltb whole.pruned l.pruned h) refl in
        let count = ap (λ y. y.pruned) cut in
        let len : l.len ≡ bit_len n (pruned_to n whole l.pruned) = sym (ap (λ y. bit_len n y) cut ∙ omega (arith, whole_len, e, begins, length-drop (8 * n * (l.pruned - whole.pruned)) whole.bits)) in
        sym (same_pending n b l (pruned_to n whole l.pruned) (sym count) len (λ k s.
        let low : 8 * n * l.pruned ≤ k = omega (arith, s.0, ap (λ y. 8 * n * y) count) in
        sym (bit_pruned n whole l.pruned k (omega arith) low ∙ whole_bit k (omega (arith, low, mul-le (8 * n) b.pruned (8 * n) l.pruned (omega arith) rises)) (omega (arith, s.1, len)))))
    | inr h ↦
        let same : l.pruned ≡ whole.pruned = omega (arith, h, rises, whole_pruned) in
        rw (le-ltb whole.pruned l.pruned h) (sym (same_pending n b l whole same (sym whole_len) (λ k s. sym (whole_bit k (omega (arith, s.0, ap (λ y. 8 * n * y) whole_pruned)) (omega (arith, s.1, whole_len))))))
  ]

-- ---- the edits applied to a bitmap that is long enough
module _ (n : ℕ) (b : PrunedBits) (l : PendingEdits) (can : CanApply n b l) where
  -- truncated to the pending length, it has that length
  pub cut_len : bit_len n (truncated n b l.len) ≡ l.len
  cut_len =
      let prefix : pruned_bits n b ≤ l.len = omega (arith, can.prefix, mul-le (8 * n) b.pruned (8 * n) l.pruned (omega arith) can.rises) in
      omega (arith, prefix, can.long, length-take-le (l.len - pruned_bits n b) b.bits (omega (arith, can.long)))

  -- there the edits in steps need no extension
  pub applied_long : 0 < n → IsStrictlySortedBy nat_cmp (keys_of l.edited) → pruned_to n (put_back n (truncated n b l.len) (edits_of l.edited)) l.pruned ≡ pending_bits n b l
  applied_long pos sorted =
      let cut : resized n b l.len ≡ truncated n b l.len = rw (le-ltb (bit_len n b) l.len can.long) refl in
      ap (λ c. pruned_to n (put_back n c (edits_of l.edited)) l.pruned) (sym cut) ∙ applied_is n b l pos can.prefix can.rises sorted

-- the pending bits are the same over an extended bitmap, because bits past the length are zero
pub pending_grown : (n : ℕ) (b : PrunedBits) (l : PendingEdits) (len : ℕ) → 8 * n * l.pruned ≤ l.len → pending_bits n (extended n b len) l ≡ pending_bits n b l
pending_grown n b l len prefix =
    let grown = pending_bits n (extended n b len) l in
    let total : bit_len n grown ≡ l.len = len_from_bits n l.pruned l.len (pending_bit n (extended n b len) l) prefix in
    sym (same_pending n b l grown refl (sym total) (λ k h.
    let same : pending_bit n (extended n b len) l k ≡ pending_bit n b l k = same_from n (edited_chunk l (k / (8 * n))) (extended n b len) b k (bit_extended n b len k) in
    sym (bit_from_bits n l.pruned l.len (pending_bit n (extended n b len) l) k h.0 (omega (arith, h.1, total)) ∙ same)))
