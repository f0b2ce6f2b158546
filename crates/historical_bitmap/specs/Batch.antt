-- What a batch gives: the result of its commit, or the aborted batch. A chunk has n bytes.
use Rattle.std.specs.Prelude.{◌≡◌, ℕ, [], ◌∷◌, ◌++◌, None, Some, Result, Ok, Err, IfOk, IfErr, OnOk, unwrap_or, alloc_error, ⊤}
use Rattle.std.specs.Borrow.{MutBor}
use Rattle.historical_bitmap.specs.declared.bitmap.historical.error.ApplyError.{ApplyError}
use Rattle.historical_bitmap.specs.declared.bitmap.historical.error.ApplyError.TheVariants.{Batch, Commit}
use Rattle.historical_bitmap.specs.declared.bitmap.historical.error.Error.{Error}
use Rattle.historical_bitmap.specs.declared.bitmap.historical.error.Error.TheVariants.{Memory}
use Rattle.historical_bitmap.specs.Pending.{PendingEdits, unedited}
use Rattle.historical_bitmap.specs.History.{before_latest}
use Rattle.historical_bitmap.specs.View.{AddsCost, View, history_of, marked_of, pending_of, commit_error}

-- the batch that a clean bitmap becomes, with no pending edits
abbrev pub begun : ℕ → View ⊤ → View PendingEdits
begun n clean = record {
  current = clean.current;
  commits = clean.commits;
  last = clean.last;
  state = unedited n clean.current;
}

-- the batch is a clean bitmap turned into a batch: the pending bitmap is the current one, and no chunk is marked
pub record IsBegun (n : ℕ) (clean : View ⊤) (batch : View PendingEdits) : Type 0 where
  pub value : batch ≡ begun n clean
  pub pending : pending_of n batch ≡ clean.current
  pub marks : marked_of n batch ≡ []

-- the clean bitmap that an aborted batch leaves: its pending edits are dropped
abbrev pub aborted : View PendingEdits → View ⊤
aborted left = record {
  current = left.current;
  commits = left.commits;
  last = left.last;
  state = tt;
}

-- the result of a commit under a number: the pending bitmap is current and kept under the number, at bounded cost; or an error, with the batch unchanged
pub record CommitGives (n : ℕ) (left : View PendingEdits) (number : ℕ)
    (result : Result (View ⊤) (View PendingEdits × Error)) : Type 0 where
  pub accepted : OnOk result (commit_error left.last number ≡ None)
  pub refused : IfErr result
      (λ e. e.1 ≡ unwrap_or (commit_error left.last number) (Memory alloc_error))
  pub unchanged : IfErr result (λ e. e.0 ≡ left)
  pub current : IfOk result (λ b. b.current ≡ pending_of n left)
  pub history : IfOk result
      (λ b. history_of n b ≡ history_of n left ++ (number, pending_of n left) ∷ [])
  pub earlier : IfOk result (λ b. before_latest b.commits ≡ left.commits)
  pub last : IfOk result (λ b. b.last ≡ Some number)
  pub costs : IfOk result (AddsCost n left number)

-- the result of a batch from the result of its commit: an error comes with the aborted batch, and says that the commit failed
abbrev pub from_commit : {E : Type 0} → Result (View ⊤) (View PendingEdits × Error)
    → Result (View ⊤) (View ⊤ × ApplyError E)
from_commit (Ok clean) = Ok clean
from_commit (Err e) = Err (aborted e.0, Commit e.1)

-- the result of a batch from what its closure left and returned: an error of the closure aborts the batch, else the batch is committed under the number
abbrev pub BatchGives : {E : Type 0} → ℕ → View PendingEdits → Result (Unit {0}) E → ℕ
    → Result (View ⊤) (View ⊤ × ApplyError E) → Type 0
BatchGives n left (Err e) number result = result ≡ Err (aborted left, Batch e)
BatchGives {E} n left (Ok done) number result =
    (commit : Result (View ⊤) (View PendingEdits × Error)) × CommitGives n left number commit
    × (result ≡ from_commit commit)

-- the precondition of a closure holds for each reference to a begun batch
abbrev pub AcceptsBegun : {D : Type 0} → (D → Type 0) → (MutBor D → Type 0) → Type 0
AcceptsBegun {D} begun accepts = (lent : MutBor D) → begun lent.now → accepts lent

-- a begun batch is lent to a closure, which returns a result and leaves a batch, with which the call ends
abbrev pub IsApplied : {D A : Type 0} → (D → Type 0) → (MutBor D → A → MutBor D → Type 0)
    → (D → A → Type 0) → Type 0
IsApplied {D} {A} begun edited ended = (lent : MutBor D) × (outcome : A) × (left : MutBor D)
    × begun lent.now × edited lent outcome left × ended left.now outcome
