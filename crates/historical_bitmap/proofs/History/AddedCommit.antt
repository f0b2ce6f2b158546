-- A commit is added to the kept ones: the invariant, the history and the costs.
use Rattle.std.proofs.Common.{◌≡◌, ℕ, ◌-◌, ◌^◌, ◌<◌, ◌≤◌, List, [], ◌∷◌, ◌++◌, Result, Ok, Err, length, take, ap, arith, ◌∙◌}
use mathlib.Core.Logic.{inl, inr}
use mathlib.Core.Bool.{true≢false}
use Rattle.std.proofs.lemmas.Bool.{cases_lt, cases_eq, eq-eqb, ne_eqb, le-leb}
use Rattle.std.proofs.lemmas.List.{length-append}
use Rattle.std.proofs.Math.Seq.{take-append_seam}
use Rattle.std.proofs.lemmas.List.Elements.{All-append, All-cons, All-nil, All-weaker}
use Rattle.std.specs.List.{All}
use Rattle.std.specs.Map.{keys_of}
use Rattle.std.proofs.lemmas.Bool.{false≢true}
use Rattle.std.specs.Prelude.{Option, Some, None, false, true, OnErr, OnOk}
use Rattle.std.specs.Result.{is_err}
use Rattle.bitmap_core.specs.PrunedBits.{PrunedBits}
use Rattle.historical_bitmap.specs.History.{before_latest, costs, latest, snapshots, AreUpTo, AreKept}
use Rattle.historical_bitmap.specs.Record.{ReverseRecord, LeadsBack}
use Rattle.historical_bitmap.specs.Undo.{CanUndo}
use Rattle.historical_bitmap.specs.View.{commit_error}
use Rattle.historical_bitmap.proofs.History.KeptCommits.{latest_is, latest_push}
use Rattle.historical_bitmap.proofs.History.PastStates.{can_undo_push, costs_push, snapshots_push}
use Rattle.historical_bitmap.proofs.Pending.Record.{keys_push, sorted_push}

-- the fact about `Ok`, if the result is no error
pub at_ok : {T E P : Type 0} (r : Result T E) → OnOk r P → is_err r ≡ false → P
at_ok (Ok x) p e = p
at_ok (Err x) p e = absurd (true≢false e)

-- the fact about `Err`, if the result is an error
pub at_err : {T E P : Type 0} (r : Result T E) → OnErr r P → is_err r ≡ true → P
at_err (Ok x) p e = absurd (false≢true e)
at_err (Err x) p e = p

-- ---- a number without a commit error
not_reserved : (last : Option ℕ) (number : ℕ) → number < 2 ^ 64 → commit_error last number ≡ None → number < 2 ^ 64 - 1
not_reserved last number small free = elim (cases_eq number (2 ^ 64 - 1)) [
  | inl e ↦ let f = rw (eq-eqb number (2 ^ 64 - 1) e) at free in cc
  | inr ne ↦ omega (arith, small, ne)
]

above_last : (last number : ℕ) → number < 2 ^ 64 → commit_error (Some last) number ≡ None → last < number
above_last last number small free = elim (cases_lt last number) [
  | inl l ↦ l
  | inr l ↦
      let ne = not_reserved (Some last) number small free in
      let f = rw (ne_eqb number (2 ^ 64 - 1) (λ e. absurd (omega (arith, e, ne))), le-leb number last l) at free in
      cc
]

-- it is greater than all kept numbers
pub all_below : (numbers : List ℕ) (last : Option ℕ) (number : ℕ) → number < 2 ^ 64 → AreUpTo numbers last → commit_error last number ≡ None → All (λ k. k < number) numbers
all_below numbers None number small up free = rw up (All-nil (λ k. k < number))
all_below numbers (Some last) number small up free = All-weaker (λ k. k ≤ last) (λ k. k < number) (λ k l. omega (arith, l, above_last last number small free)) numbers up.1

-- ---- a commit under such a number
module _ (n : ℕ) (cs ds : List (ℕ × ReverseRecord)) (last : Option ℕ) (number : ℕ) (r : ReverseRecord) (older newer : PrunedBits)
    (pos : 0 < n) (small : number < 2 ^ 64) (free : commit_error last number ≡ None) (kept : AreKept n older cs last) (appended : ds ≡ cs ++ (number, r) ∷ []) where
  -- the other commits are unchanged
  pub earlier_same : before_latest ds ≡ cs
  earlier_same =
      let count : length (cs ++ (number, r) ∷ []) - 1 ≡ length cs = omega (arith, length-append cs ((number, r) ∷ [])) in
      ap before_latest appended ∙ (ap (λ k. take k (cs ++ (number, r) ∷ [])) count ∙ take-append_seam cs ((number, r) ∷ []))

  numbers_last : keys_of ds ≡ keys_of cs ++ number ∷ []
  numbers_last = ap keys_of appended ∙ keys_push cs number r

  -- the commits that are then kept
  pub kept_more : LeadsBack n r older newer → CanUndo n r newer → AreKept n newer ds (Some number)
  kept_more back can =
      let below = all_below (keys_of cs) last number small kept.numbers free in
      record {
        undo = rw appended (can_undo_push n cs number r older newer pos back can kept.undo);
        rise = rw numbers_last (sorted_push (keys_of cs) number kept.rise below);
        numbers = (
          not_reserved last number small free,
          rw numbers_last (All-append (λ k. k ≤ number) (keys_of cs) (number ∷ [])
              (All-weaker (λ k. k < number) (λ k. k ≤ number) (λ k l. omega (arith, l)) (keys_of cs) below)
              (All-cons (λ k. k ≤ number) number [] (omega arith) (All-nil (λ k. k ≤ number)))),
        );
        ends = latest_is ds number (ap latest appended ∙ latest_push cs (number, r));
      }

  -- the bitmap that the commit leaves is appended to the history
  pub history_more : LeadsBack n r older newer → snapshots n ds newer ≡ snapshots n cs older ++ (number, newer) ∷ []
  history_more back = rw appended (snapshots_push n cs number r older newer pos back)

  -- its cost is appended to the costs
  pub costs_more : costs ds ≡ costs cs ++ (number, length r.entries) ∷ []
  costs_more = ap costs appended ∙ costs_push cs number r
