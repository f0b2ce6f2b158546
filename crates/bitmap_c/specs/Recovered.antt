-- What the call does that makes a session from the bytes of a log. A chunk has n bytes.
use Rattle.std.specs.Prelude.{◌≡◌, ℕ, ◌<◌, ◌≤◌, Bool, List, [], length, take, ◌⊎◌, Option, None, Some, Result, Ok, Err, IfOk, IfErr, IfSome, MatchResult, alloc_error}
use Rattle.log_frames.specs.declared.frame.Place.{Place}
use Rattle.commit_log.specs.Base.{Base}
use Rattle.commit_log.specs.Entries.{Entry}
use Rattle.commit_log.specs.Kept.{Kept}
use Rattle.commit_log.specs.Logs.{IsLog, LogView, entries_in, log_bytes, place_of, state_of}
use Rattle.commit_log.specs.Recovered.{IsPrefixOf, IsRecoverError, Recovers}
use Rattle.commit_log.specs.declared.recovery.RecoverError.{RecoverError}
use Rattle.commit_log.specs.declared.recovery.RecoverError.TheVariants.{Damaged, Memory}
use Rattle.bitmap_session.specs.Machine.{Machine}
use Rattle.bitmap_session.specs.Saved.{IsOutside, kept_part}
use Rattle.bitmap_c.specs.declared.any.AnySession.{AnySession}
use Rattle.bitmap_c.specs.Saved.{IntoEmpty}
use Rattle.bitmap_c.specs.Statuses.{recover_status}
use Rattle.bitmap_c.specs.Widths.{log_of, machine, width}

-- the log at a place, of which no bytes are to be written
abbrev pub log_at : Place → LogView
log_at place = record { bytes = []; place = place }

-- a machine outside a batch keeps what the bytes recover to, and its log goes on after the good ones, whose number this is
pub record IsRecoveredFrom (n : ℕ) (bytes : List ℕ) (m : Machine) (log : Option LogView)
    (good : ℕ) : Type 0 where
  pub place : Place
  pub torn : Bool
  pub recovers : Recovers n bytes (kept_part m.state) place torn
  pub outside : IsOutside m
  pub log_is : log ≡ Some (log_at place)
  pub good_is : good ≡ place.at
  pub within : good ≤ length bytes

-- a machine keeps what entries make of a base, and its log goes on after these
abbrev pub KeepsEntries : ℕ → Base → List Entry → Machine → Option LogView → Type 0
KeepsEntries n base entries m log = (kept_part m.state ≡ state_of n base entries)
    × (log ≡ Some (log_at (place_of n base entries)))

-- the bytes are the first ones of a log, in which its base is not whole
abbrev pub EndsInBase : ℕ → Base → List Entry → ℕ → List ℕ → Type 0
EndsInBase n base entries size bytes =
    IsLog n base entries × (size < length (log_bytes n base []))
    × (bytes ≡ take size (log_bytes n base entries))

-- what bytes are recovered to as a log: a machine with its log and the number of good bytes, or the first error. From a log, the machine keeps what all entries make, and from a prefix of one, what those make that are whole in it. Bytes that recover to a state, and a prefix of a log, are refused by nothing but out of memory, and a prefix without the whole base is cut off
pub record ReadsLog (n : ℕ) (bytes : List ℕ)
    (read : Result ((Machine × Option LogView) × ℕ) RecoverError) : Type 0 where
  pub recovered : IfOk read (λ found. IsRecoveredFrom n bytes found.0.0 found.0.1 found.1)
  pub whole : (base : Base) (entries : List Entry) → IsLog n base entries
      → bytes ≡ log_bytes n base entries
      → IfOk read (λ found. KeepsEntries n base entries found.0.0 found.0.1)
  pub prefix : (base : Base) (entries : List Entry) (size : ℕ)
      → IsPrefixOf n base entries size bytes
      → IfOk read (λ found. KeepsEntries n base
      (entries_in size n base entries) found.0.0 found.0.1)
  pub of_prefix : (base : Base) (entries : List Entry) (size : ℕ)
      → IsPrefixOf n base entries size bytes
      → IfErr read (λ e. e ≡ Memory alloc_error)
  pub complete : (state : Kept) (place : Place) (torn : Bool) → Recovers n bytes state place torn
      → IfErr read (λ e. e ≡ Memory alloc_error)
  pub cut : (base : Base) (entries : List Entry) (size : ℕ) → EndsInBase n base entries size bytes
      → MatchResult read (λ found. ⊥) (λ e. recover_status e ≡ 20)
  pub error : IfErr read (λ e. IsRecoverError n bytes e)

-- what is recovered to a session of any width, as a machine with its log
abbrev pub as_logged : Result (AnySession × ℕ) RecoverError
    → Result ((Machine × Option LogView) × ℕ) RecoverError
as_logged (Ok found) = Ok ((machine found.0, log_of found.0), found.1)
as_logged (Err e) = Err e

-- the number of bytes before the damage of a log, or the old number if the error is no damage
abbrev pub good_or : RecoverError → ℕ → ℕ
good_or (Damaged at damage) old = at
good_or _ old = old

-- an empty handle gets the session that a log makes, with its log, with DONE and the number of good bytes; or it stays empty, with NO_MEMORY or the status of an error of the bytes, and the number is that of the bytes before a damaged frame, and otherwise unchanged
abbrev pub IsRecoveredOrNot : ℕ → List ℕ → (status old_good good : ℕ) → Option AnySession → Type 0
IsRecoveredOrNot n bytes status old_good good new =
    ((status ≡ 0) × ((made : AnySession) × (new ≡ Some made) × (width made ≡ n)
    × IsRecoveredFrom n bytes (machine made) (log_of made) good))
    ⊎ ((new ≡ None)
    × (((status ≡ 13) × (good ≡ old_good))
    ⊎ ((e : RecoverError) × (status ≡ recover_status e) × (good ≡ good_or e old_good)
    × IsRecoverError n bytes e)))

-- what recovering bytes into an empty handle does. From a log, the session keeps what all entries make, and from a prefix of one, what those make that are whole in it. Bytes that recover to a state, and a prefix of a log, are refused by nothing but out of memory, and a prefix without the whole base is CUT_OFF
pub record RecoversBytes (n : ℕ) (bytes : List ℕ) (status old_good good : ℕ)
    (new : Option AnySession) : Type 0 where
  pub outcome : IsRecoveredOrNot n bytes status old_good good new
  pub whole : (base : Base) (entries : List Entry) → IsLog n base entries
      → bytes ≡ log_bytes n base entries
      → IfSome new (λ made. KeepsEntries n base entries (machine made) (log_of made))
  pub prefix : (base : Base) (entries : List Entry) (size : ℕ)
      → IsPrefixOf n base entries size bytes
      → IfSome new (λ made. KeepsEntries n base (entries_in size n base entries) (machine made)
      (log_of made))
  pub of_prefix : (base : Base) (entries : List Entry) (size : ℕ)
      → IsPrefixOf n base entries size bytes
      → (status ≡ 0) ⊎ (status ≡ 13)
  pub complete : (state : Kept) (place : Place) (torn : Bool) → Recovers n bytes state place torn
      → (status ≡ 0) ⊎ (status ≡ 13)
  pub cut : (base : Base) (entries : List Entry) (size : ℕ) → EndsInBase n base entries size bytes
      → status ≡ 20

-- a full handle is unchanged, with FULL_HANDLE; bytes are recovered into an empty one, or it stays empty, with NO_SUCH_WIDTH
abbrev pub RecoversLog : Option AnySession → ℕ → List ℕ → (status old_good good : ℕ)
    → Option AnySession → Type 0
RecoversLog old n bytes status old_good good new =
    IntoEmpty old n status old_good good new (RecoversBytes n bytes status old_good good new)
