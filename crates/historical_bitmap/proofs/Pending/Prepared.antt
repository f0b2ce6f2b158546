-- A commit in two steps: what is prepared is finished, or undone.
use Rattle.std.proofs.Common.{◌≡◌, ℕ, ◌+◌, ◌-◌, ◌^◌, ◌<◌, ◌≤◌, false, List, [], ◌∷◌, ◌++◌, length, take, replicate, refl, ap, arith, sym, subst, ◌∙◌}
use Rattle.std.proofs.lemmas.List.{length-append, length-replicate}
use Rattle.std.proofs.lemmas.Option.{same_Some}
use Rattle.std.proofs.Math.Seq.{take-append_seam}
use Rattle.std.specs.Prelude.{Option, Some, None, MatchOption, slice_get}
use Rattle.bitmap_core.specs.PrunedBits.{PrunedBits, bit_len, extended, pruned_bits, truncated}
use Rattle.bitmap_bytes.specs.Chunk.{IsWidth}
use Rattle.bitmap_core.proofs.Pruned.Edits.{len_appended}
use Rattle.bitmap_core.proofs.Pruned.Positions.{same_pruned}
use Rattle.historical_bitmap.specs.Cost.{most_cost}
use Rattle.historical_bitmap.specs.History.{AreKept, before_latest, costs, snapshots}
use Rattle.historical_bitmap.specs.Pending.{CanApply, IsEdited, PendingEdits, PendingFits, edited_chunk, marked_chunks, pending_bits, uncaptured}
use Rattle.historical_bitmap.specs.Prepared.{CanFinish, IsPrepared}
use Rattle.historical_bitmap.specs.Record.{ReverseRecord}
use Rattle.historical_bitmap.specs.View.{commit_error}
use Rattle.historical_bitmap.proofs.History.AddedCommit.{costs_more, earlier_same, history_more, kept_more}
use Rattle.historical_bitmap.proofs.Pending.Applied.{pending_grown}
use Rattle.historical_bitmap.proofs.Pending.Record.{record_bound, record_can_undo, record_leads_back}

-- a bitmap that is extended and cut back is as it was
pub cut_back : (n : ℕ) (b : PrunedBits) (len : ℕ) → truncated n (extended n b len) (bit_len n b) ≡ b
cut_back n b len =
    let more = replicate (len - bit_len n b) false in
    let own : bit_len n b - pruned_bits n b ≡ length b.bits = omega arith in
    same_pruned (truncated n (extended n b len) (bit_len n b)) b refl (ap (λ (k : ℕ). take k (b.bits ++ more)) own ∙ take-append_seam b.bits more)

long_enough : (n : ℕ) (b : PrunedBits) (len : ℕ) → len ≤ bit_len n (extended n b len)
long_enough n b len = omega (arith, len_appended n b (replicate (len - bit_len n b) false), length-replicate (len - bit_len n b) false)

-- pending edits can be applied in steps to the bitmap that is extended to their length
can_apply_grown : (n : ℕ) (b : PrunedBits) (l : PendingEdits) → PendingFits n b l → CanApply n (extended n b l.len) (uncaptured l.len l.pruned l.edited)
can_apply_grown n b l fits = record {
  long = long_enough n b l.len;
  prefix = fits.prefix;
  rises = fits.rises;
  edited = λ i. each i (edited_chunk l i) (fits.edited i);
}
  where
    each : (i : ℕ) (o : Option (List ℕ)) → MatchOption o (Unit {0}) (IsEdited n b l i) → MatchOption o (Unit {0}) (IsEdited n (extended n b l.len) (uncaptured l.len l.pruned l.edited) i)
    each i None h = tt
    each i (Some bytes) h = record { low = h.low; high = h.high; size = h.size; clear = h.clear }

last_get : {X : Type 0} (es : List X) (e : X) → slice_get (es ++ e ∷ []) (length es) ≡ Some e
last_get [] e = refl
last_get (d ∷ ds) e = last_get ds e

module _ (n : ℕ) (b : PrunedBits) (cs more : List (ℕ × ReverseRecord)) (l : PendingEdits) (number : ℕ) (grown : PrunedBits) (pos : 0 < n) (fits : PendingFits n b l) (p : IsPrepared n b cs l number grown more) where
  -- the pending edits can be applied to the extended bitmap, which gives the pending bitmap
  pub can_apply : CanApply n grown (uncaptured l.len l.pruned l.edited)
  can_apply = subst (λ g. CanApply n g (uncaptured l.len l.pruned l.edited)) (sym p.grown_is) (can_apply_grown n b l fits)

  pub pending_same : pending_bits n grown l ≡ pending_bits n b l
  pending_same = ap (λ g. pending_bits n g l) p.grown_is ∙ pending_grown n b l l.len fits.prefix

  -- cut back, it is the bitmap before
  pub restored : truncated n grown (bit_len n b) ≡ b
  restored = ap (λ g. truncated n g (bit_len n b)) p.grown_is ∙ cut_back n b l.len

  -- the record of the new commit is found at the end of the commits
  pub found_diff : (count : ℕ) (found : ℕ × ReverseRecord) → count ≡ length more → slice_get more (count - 1) ≡ Some found → found.1 ≡ p.diff
  found_diff count found all there =
      let one : length (cs ++ (number, p.diff) ∷ []) ≡ length cs + 1 = length-append cs ((number, p.diff) ∷ []) in
      let place : count - 1 ≡ length cs = omega (arith, all, ap length p.appended, one) in
      let same : Some found ≡ Some (number, p.diff) = sym there ∙ (ap (λ (k : ℕ). slice_get more k) place ∙ (ap (λ ds. slice_get ds (length cs)) p.appended ∙ last_get cs (number, p.diff))) in
      ap (λ (e : ℕ × ReverseRecord). e.1) (same_Some found (number, p.diff) same)

  module _ (last : Option ℕ) (small : number < 2 ^ 64) (accepted : commit_error last number ≡ None) (kept : AreKept n b cs last) where
    -- the commits with the new one, the history and the costs
    pub kept_then : AreKept n (pending_bits n b l) more (Some number)
    kept_then = kept_more n cs more last number p.diff b (pending_bits n b l) pos small accepted kept p.appended (record_leads_back n b l p.diff pos fits p.reverses) (record_can_undo n b l p.diff pos fits p.reverses)

    pub history_then : snapshots n more (pending_bits n b l) ≡ snapshots n cs b ++ (number, pending_bits n b l) ∷ []
    history_then = history_more n cs more last number p.diff b (pending_bits n b l) pos small accepted kept p.appended (record_leads_back n b l p.diff pos fits p.reverses)

    pub earlier_then : before_latest more ≡ cs
    earlier_then = earlier_same n cs more last number p.diff b (pending_bits n b l) pos small accepted kept p.appended

    pub costs_then : (cost : ℕ) × (cost ≤ most_cost n (marked_chunks n b l) b (pending_bits n b l)) × (costs more ≡ costs cs ++ (number, cost) ∷ [])
    costs_then = (length p.diff.entries, omega (arith, record_bound n b l p.diff p.reverses), costs_more n cs more last number p.diff b (pending_bits n b l) pos small accepted kept p.appended)

    -- the invariant of what is prepared
    pub prepared_can_finish : IsWidth n → (old_len : ℕ) → old_len ≡ bit_len n b → CanFinish n grown old_len more last l number
    prepared_can_finish width old_len is =
        let same : truncated n grown old_len ≡ b = ap (λ (k : ℕ). truncated n grown k) is ∙ restored in
        record {
          is_extended = record {
            width = width;
            low = rw is (subst (λ g. pruned_bits n g ≤ bit_len n b) (sym p.grown_is) (omega arith));
            high = rw is (subst (λ g. bit_len n b ≤ bit_len n g) (sym p.grown_is) (omega (arith, len_appended n b (replicate (l.len - bit_len n b) false))));
            edits_fit = rw same fits;
            grown_is = subst (λ x. grown ≡ extended n x l.len) (sym same) p.grown_is;
          };
          small = small;
          accepted = accepted;
          kept = rw (same, earlier_then) kept;
          prepared = rw (same, earlier_then) p;
        }
