-- What the calls do by which a session outlives its process. A chunk has n bytes.
use Rattle.std.specs.Prelude.{◌≡◌, ℕ, ◌<◌, List, ◌++◌, length, take, ◌⊎◌, Option, None, Some, Result, Ok, Err, IfOk, IfErr, IfSome, MatchBool, MatchOption, MatchResult, alloc_error}
use Rattle.bitmap_core.specs.PrunedBits.{PrunedBits}
use Rattle.commit_log.specs.Delta.{Brings, IsStep, committed, delta_between, encode_delta}
use Rattle.commit_log.specs.History.{HasLog, IsHistory, history_bytes}
use Rattle.commit_log.specs.Kept.{Kept}
use Rattle.commit_log.specs.Reading.{IsHistoryError, IsWithin, Ranges}
use Rattle.commit_log.specs.declared.reading.HistoryError.{HistoryError}
use Rattle.commit_log.specs.declared.reading.HistoryError.TheVariants.{Memory}
use Rattle.bitmap_session.specs.Machine.{Machine, wants_no_batch}
use Rattle.bitmap_session.specs.Replies.{Refusal, ReplyValue}
use Rattle.bitmap_session.specs.Replies.ReplyValue.{Bytes, Refused}
use Rattle.bitmap_session.specs.Replies.Refusal.{NoMemory, WrongMode}
use Rattle.bitmap_session.specs.Saved.{IsApplyDeltaError, IsOutside, kept_part}
use Rattle.bitmap_session.specs.declared.session.saved.ApplyDeltaError.{ApplyDeltaError}
use Rattle.bitmap_session.specs.declared.session.saved.SaveError.{SaveError}
use Rattle.bitmap_session.specs.declared.session.saved.SaveError.TheVariants as save_errors
use Rattle.bitmap_c.specs.declared.any.AnySession.{AnySession}
use Rattle.bitmap_c.specs.Making.{between}
use Rattle.bitmap_c.specs.Statuses.{apply_status, history_status}
use Rattle.bitmap_c.specs.Widths.{is_width, log_of, machine, width}

-- ---- bytes that are written

-- the refusal of a session that writes no bytes
abbrev pub save_refusal : SaveError → Refusal
save_refusal save_errors.InBatch = WrongMode
save_refusal (save_errors.Memory e) = NoMemory

-- in a batch a call reports WrongMode; outside one, it reports the bytes that are found, if there are any, or that an allocation failed
abbrev pub FoundIn : Machine → Option (List ℕ) → (ReplyValue → Type 0) → Type 0
FoundIn m found Says = MatchOption (wants_no_batch m.state)
    (Says (Bytes found) ⊎ Says (Refused NoMemory))
    (λ refusal. Says (Refused refusal))

-- the same of the session of a handle; of an empty handle, Empty holds
abbrev pub Found : Option AnySession → (ℕ → Machine → Option (List ℕ)) → (ReplyValue → Type 0)
    → Type 0 → Type 0
Found None found Says Empty = Empty
Found (Some any) found Says Empty = FoundIn (machine any) (found (width any) (machine any)) Says

-- the status if bytes are found: DONE, or WRONG_SIZE if the buffer does not have their size
abbrev pub IsFound : ℕ → Type 0
IsFound status = (status ≡ 0) ⊎ (status ≡ 18)

-- ---- a history that is read

-- the numbers of retained bits, and those of commits, from one number to another, both included
abbrev pub ranges_between : (least_bits most_bits least_commits most_commits : ℕ) → Ranges
ranges_between least_bits most_bits least_commits most_commits =
    record { bits = between least_bits most_bits; commits = between least_commits most_commits }

-- a machine outside a batch has the history that the bytes begin with, which is of this size, and whose numbers are admitted
pub record IsLoaded (n : ℕ) (r : Ranges) (bytes : List ℕ) (m : Machine) (size : ℕ) : Type 0 where
  pub rest : List ℕ
  pub value : bytes ≡ history_bytes n (kept_part m.state) ++ rest
  pub size_is : size ≡ length (history_bytes n (kept_part m.state))
  pub outside : IsOutside m
  pub ends : IsHistory (kept_part m.state)
  pub admitted : IsWithin r (kept_part m.state)

-- the bytes are the history of a state, and then a rest
abbrev pub BeginsWith : ℕ → Kept → List ℕ → List ℕ → Type 0
BeginsWith n kept bytes rest = HasLog n kept × (bytes ≡ history_bytes n kept ++ rest)

-- the bytes are the first ones of the history of a state, of which at least one is left out
abbrev pub IsPart : ℕ → Kept → List ℕ → ℕ → Type 0
IsPart n kept bytes size = HasLog n kept × (size < length (history_bytes n kept))
    × (bytes ≡ take size (history_bytes n kept))

-- what bytes are read to as a history: a machine with its size, or the first error. The history of a state is read to this state, an admitted one is refused by nothing but out of memory, and one of which a part is missing is refused as cut off or out of memory
pub record ReadsHistory (n : ℕ) (r : Ranges) (bytes : List ℕ)
    (read : Result (Machine × ℕ) HistoryError) : Type 0 where
  pub loaded : IfOk read (λ found. IsLoaded n r bytes found.0 found.1)
  pub again : (kept : Kept) (rest : List ℕ) → BeginsWith n kept bytes rest → IsHistory kept
      → IfOk read (λ found. kept_part found.0.state ≡ kept)
  pub complete : (kept : Kept) (rest : List ℕ) → BeginsWith n kept bytes rest → IsWithin r kept
      → IfErr read (λ e. e ≡ Memory alloc_error)
  pub cut : (kept : Kept) (size : ℕ) → IsPart n kept bytes size → IsWithin r kept
      → MatchResult read (λ found. ⊥) (λ e. (history_status e ≡ 20) ⊎ (history_status e ≡ 13))
  pub error : IfErr read (λ e. IsHistoryError n r bytes e)

-- what is read to a session of any width, as a machine
abbrev pub as_machine : Result (AnySession × ℕ) HistoryError → Result (Machine × ℕ) HistoryError
as_machine (Ok found) = Ok (machine found.0, found.1)
as_machine (Err e) = Err e

-- ---- a history that is loaded

-- an empty handle gets a session with the history and no log, with DONE and its size; or it stays empty and the size is unchanged, with NO_MEMORY or the status of an error of the bytes
abbrev pub IsLoadedOrNot : ℕ → Ranges → List ℕ → (status old_used used : ℕ) → Option AnySession
    → Type 0
IsLoadedOrNot n r bytes status old_used used new =
    ((status ≡ 0) × ((made : AnySession) × (new ≡ Some made) × (width made ≡ n)
    × (log_of made ≡ None) × IsLoaded n r bytes (machine made) used))
    ⊎ ((new ≡ None) × (used ≡ old_used)
    × ((status ≡ 13) ⊎ ((e : HistoryError) × (status ≡ history_status e)
    × IsHistoryError n r bytes e)))

-- what loading bytes into an empty handle does. The history of a state is loaded as this state, an admitted one is refused by nothing but out of memory, and one of which a part is missing is refused with CUT_OFF or NO_MEMORY
pub record LoadsBytes (n : ℕ) (r : Ranges) (bytes : List ℕ) (status old_used used : ℕ)
    (new : Option AnySession) : Type 0 where
  pub outcome : IsLoadedOrNot n r bytes status old_used used new
  pub again : (kept : Kept) (rest : List ℕ) → BeginsWith n kept bytes rest → IsHistory kept
      → IfSome new (λ made. kept_part (machine made).state ≡ kept)
  pub complete : (kept : Kept) (rest : List ℕ) → BeginsWith n kept bytes rest → IsWithin r kept
      → (status ≡ 0) ⊎ (status ≡ 13)
  pub cut : (kept : Kept) (size : ℕ) → IsPart n kept bytes size → IsWithin r kept
      → (status ≡ 20) ⊎ (status ≡ 13)

-- a full handle and a number that is written are unchanged, with FULL_HANDLE; of an empty handle, Reads holds, or it stays empty and the number is unchanged, with NO_SUCH_WIDTH
abbrev pub IntoEmpty : Option AnySession → ℕ → (status old_number number : ℕ) → Option AnySession
    → Type 0 → Type 0
IntoEmpty (Some old) n status old_number number new Reads = (status ≡ 16) × (new ≡ Some old)
    × (number ≡ old_number)
IntoEmpty None n status old_number number new Reads = MatchBool (is_width n)
    Reads
    ((status ≡ 17) × (new ≡ None) × (number ≡ old_number))

-- a full handle is unchanged, with FULL_HANDLE; bytes are loaded into an empty one, or it stays empty, with NO_SUCH_WIDTH
abbrev pub Loads : Option AnySession → ℕ → Ranges → List ℕ → (status old_used used : ℕ)
    → Option AnySession → Type 0
Loads old n r bytes status old_used used new =
    IntoEmpty old n status old_used used new (LoadsBytes n r bytes status old_used used new)

-- ---- a delta that is applied

-- bytes bring a machine outside a batch to another one as a delta, with DONE; or it is unchanged, with the status of why they are not applied
abbrev pub IsBroughtOrNot : ℕ → List ℕ → Machine → ℕ → Machine → Type 0
IsBroughtOrNot n bytes old status new =
    ((status ≡ 0) × IsOutside old × IsOutside new
    × Brings n bytes (kept_part old.state) (kept_part new.state))
    ⊎ ((new ≡ old) × ((e : ApplyDeltaError) × (status ≡ apply_status e)
    × IsApplyDeltaError n old bytes e))

-- what applying bytes as a delta does to a machine. Bytes that bring it to another state are refused by nothing but out of memory, and the delta from its bitmap to a newer one commits that one
pub record Applies (n : ℕ) (bytes : List ℕ) (old : Machine) (status : ℕ)
    (new : Machine) : Type 0 where
  pub outcome : IsBroughtOrNot n bytes old status new
  pub complete : (t : Kept) → IsOutside old → Brings n bytes (kept_part old.state) t
      → (status ≡ 0) ⊎ (status ≡ 13)
  pub newer : (from to : ℕ) (bitmap : PrunedBits) → IsOutside old
      → IsStep n from old.state.current to bitmap → old.state.last ≡ Some from
      → bytes ≡ encode_delta n (delta_between n from old.state.current to bitmap)
      → (status ≡ 0) × (kept_part new.state ≡ committed (kept_part old.state) to bitmap)
      ⊎ (status ≡ 13)
