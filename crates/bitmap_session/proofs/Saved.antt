-- Deltas that sessions apply, and sessions that are loaded.
use Rattle.std.proofs.Common.{◌≡◌, ℕ, List, Result, Ok, Err, refl, sym, ap, subst, ◌∙◌, inl, inr}
use Rattle.std.specs.Prelude.{IfOk}
use Rattle.std.proofs.lemmas.Option.{none-some}
use Rattle.historical_bitmap.specs.Pending.{PendingEdits}
use Rattle.historical_bitmap.specs.View.{View, pending_of}
use Rattle.commit_log.specs.Reading.{IsCutOff}
use Rattle.commit_log.specs.declared.reading.HistoryError.{HistoryError}
use Rattle.bitmap_session.specs.Abstraction.{dirty}
use Rattle.bitmap_session.specs.Machine.{Machine}
use Rattle.bitmap_session.specs.Saved.{AppliesDelta, IsOutside}
use Rattle.bitmap_session.specs.declared.session.saved.ApplyDeltaError.TheVariants.{InBatch}

-- a machine in a batch is not outside one
pub never_outside : (n : ℕ) (v : View PendingEdits) → IsOutside (dirty n v) → ⊥
never_outside n v outside = none-some (pending_of n v) (sym outside.0)

-- in a batch no delta is applied
not_applied : {T : Type 0} (n : ℕ) (bytes : List ℕ) (v : View PendingEdits) → AppliesDelta {T = T} n bytes (dirty n v) (Err InBatch) (dirty n v)
not_applied n bytes v = record {
  outside = tt;
  entry = tt;
  error = refl;
  unchanged = refl;
  complete = λ t outside brings. absurd (never_outside n v outside);
  newer = λ from to bitmap outside step last is. absurd (never_outside n v outside);
  rises = λ rise. rise;
}

pub none_applied : {T : Type 0} (n : ℕ) (bytes : List ℕ) (v : View PendingEdits) (m : Machine) → dirty n v ≡ m → AppliesDelta {T = T} n bytes m (Err InBatch) (dirty n v)
none_applied {T = T} n bytes v m e = subst (λ (k : Machine). AppliesDelta {T = T} n bytes k (Err InBatch) (dirty n v)) e (not_applied {T = T} n bytes v)

-- ---- what is loaded

-- two facts of a value
pub ok_same : {T E : Type 0} (r : Result T E) (P Q R : T → Type 0) → IfOk r P → IfOk r (λ x. Q x × R x) → IfOk r (λ x. P x × Q x)
ok_same (Ok x) P Q R p q = (p, q.0)
ok_same (Err e) P Q R p q = tt

-- an error of one result is that of another with the same error
pub error_same : {A B E : Type 0} (r : Result A E) (q : Result B E) (e f : E) → r ≡ Err e → q ≡ Err e → r ≡ Err f → q ≡ Err f
error_same r q e f is there h = let same : e ≡ f = cc in there ∙ ap Err same

pub cut_same : {A B : Type 0} (r : Result A HistoryError) (q : Result B HistoryError) (e : HistoryError) → r ≡ Err e → q ≡ Err e → IsCutOff r → IsCutOff q
cut_same r q e is there (inl h) = inl (error_same r q e _ is there h)
cut_same r q e is there (inr h) = inr (error_same r q e _ is there h)

-- a value is no error
pub not_error : {A B E : Type 0} (r : Result A E) (q : Result B E) (x : A) (e : E) → r ≡ Ok x → r ≡ Err e → q ≡ Err e
not_error r q x e is h = absurd cc

pub not_cut : {A B : Type 0} (r : Result A HistoryError) (q : Result B HistoryError) (x : A) → r ≡ Ok x → IsCutOff r → IsCutOff q
not_cut r q x is (inl h) = absurd cc
not_cut r q x is (inr h) = absurd cc
