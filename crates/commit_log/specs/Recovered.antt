-- What bytes are recovered to, and why they are not. A chunk has n bytes.
use Rattle.std.specs.Prelude.{◌≡◌, ◌≢◌, ◌⊎◌, ℕ, ◌<◌, ◌≤◌, Bool, List, [], ◌++◌, length, take, Ok, Err, None, alloc_error}
use Rattle.std.specs.Bool.{Decides}
use Rattle.log_frames.specs.Frames.{frame_at}
use Rattle.log_frames.specs.Header.{first_place, header, header_at}
use Rattle.log_frames.specs.declared.frame.Place.{Place}
use Rattle.log_frames.specs.declared.frame.Stop.{Stop}
use Rattle.log_frames.specs.declared.frame.Stop.TheVariants.{Torn, BadHead, BadDigest}
use Rattle.historical_bitmap.specs.History.{kept_under}
use Rattle.commit_log.specs.Accepted.{Accepts, IsChangeError}
use Rattle.commit_log.specs.Base.{Base, IsBaseError}
use Rattle.commit_log.specs.Entries.{Change, Entry, FitsEntry, decode_entry, encode_entry}
use Rattle.commit_log.specs.Entries.Entry.{Commit, Rewind}
use Rattle.commit_log.specs.Kept.{Kept, after}
use Rattle.commit_log.specs.Logs.{IsLog, entries_in, log_bytes, place_of, state_of}
use Rattle.commit_log.specs.declared.base.BaseError.{BaseError}
use Rattle.commit_log.specs.declared.base.BaseError.TheVariants.{Memory}
use Rattle.commit_log.specs.declared.error.ApplyError.{ApplyError}
use Rattle.commit_log.specs.declared.error.ApplyError.TheVariants as failures
use Rattle.commit_log.specs.declared.error.EntryError.{EntryError}
use Rattle.commit_log.specs.declared.error.EntryError.TheVariants as errors
use Rattle.commit_log.specs.declared.recovery.Damage.{Damage}
use Rattle.commit_log.specs.declared.recovery.Damage.TheVariants as damages
use Rattle.commit_log.specs.declared.recovery.RecoverError.{RecoverError}
use Rattle.commit_log.specs.declared.recovery.RecoverError.TheVariants as recover_errors

-- ---- what is read

-- the bytes are those of a log, and then a rest
pub record BeginsWith (n : ℕ) (bytes : List ℕ) (base : Base) (entries : List Entry)
    (rest : List ℕ) : Type 0 where
  pub whole : bytes ≡ log_bytes n base entries ++ rest
  pub log : IsLog n base entries

-- the bytes are those of a log that makes this state and ends at this place, and then a rest
pub record ReadsTo (n : ℕ) (bytes : List ℕ) (state : Kept) (place : Place)
    (rest : List ℕ) : Type 0 where
  pub base : Base
  pub entries : List Entry
  pub begins : BeginsWith n bytes base entries rest
  pub state_is : state ≡ state_of n base entries
  pub place_is : place ≡ place_of n base entries

-- the bytes are those of a log that makes this state and ends at this place, and then a torn rest, which may be empty: the flag says whether it has a byte
pub record Recovers (n : ℕ) (bytes : List ℕ) (state : Kept) (place : Place)
    (torn : Bool) : Type 0 where
  pub rest : List ℕ
  pub reads : ReadsTo n bytes state place rest
  pub stop : frame_at place rest ≡ Err Torn
  pub torn_is : Decides torn (0 < length rest)

-- a body encodes an entry that a state accepts, and that makes of it another state
pub record MakesNext (n : ℕ) (state : Kept) (body : List ℕ) (new : Kept) : Type 0 where
  pub entry : Entry
  pub encoded : body ≡ encode_entry entry
  pub fits : FitsEntry n entry
  pub accepted : Accepts n state entry
  pub new_is : new ≡ after n state entry

-- these bytes are the first m bytes of a log, in which its base is whole
pub record IsPrefixOf (n : ℕ) (base : Base) (entries : List Entry) (m : ℕ)
    (bytes : List ℕ) : Type 0 where
  pub log : IsLog n base entries
  pub has_base : length (log_bytes n base []) ≤ m
  pub within : m ≤ length (log_bytes n base entries)
  pub is : bytes ≡ take m (log_bytes n base entries)

-- the state and the place of the entries that are whole in the first m bytes of a log, and whether there are more bytes than theirs
pub record IsMadeIn (n : ℕ) (base : Base) (entries : List Entry) (m : ℕ) (state : Kept)
    (place : Place) (torn : Bool) : Type 0 where
  pub state_is : state ≡ state_of n base (entries_in m n base entries)
  pub place_is : place ≡ place_of n base (entries_in m n base entries)
  pub torn_is : Decides torn (length (log_bytes n base (entries_in m n base entries)) < m)

-- ---- why bytes are not recovered

-- a body encodes a commit whose change has this error after a state
abbrev pub HasChangeError : ℕ → Kept → List ℕ → EntryError → Type 0
HasChangeError n s body e =
    (c : Change) × (decode_entry n body ≡ Ok (Commit c)) × IsChangeError n s.current s.last c e

-- a body encodes a rewind to a commit that a state does not keep
abbrev pub HasNoSuchCommit : ℕ → Kept → List ℕ → Type 0
HasNoSuchCommit n s body =
    (number : ℕ) × (decode_entry n body ≡ Ok (Rewind number)) × (kept_under s.history number ≡ None)

-- why a state does not accept the entry that a body encodes, or the body encodes none
abbrev pub IsEntryError : ℕ → Kept → List ℕ → EntryError → Type 0
IsEntryError n s body (errors.Decode e) = decode_entry n body ≡ Err e
IsEntryError n s body errors.NoSuchCommit = HasNoSuchCommit n s body
IsEntryError n s body errors.Number = HasChangeError n s body errors.Number
IsEntryError n s body errors.Length = HasChangeError n s body errors.Length
IsEntryError n s body errors.Chunks = HasChangeError n s body errors.Chunks

-- why the entry in a body was not applied: the state does not accept it, or an allocation failed
abbrev pub IsBodyError : ℕ → Kept → List ℕ → ApplyError → Type 0
IsBodyError n s body (failures.Entry e) = IsEntryError n s body e
IsBodyError n s body (failures.Memory e) = Unit {0}

-- the bytes are good up to a rest, which begins at this place: the place is after the header, or after a log
abbrev pub IsGoodUpTo : ℕ → List ℕ → Place → List ℕ → Type 0
IsGoodUpTo n bytes place rest =
    ((bytes ≡ header n ++ rest) × (place ≡ first_place n))
    ⊎ ((state : Kept) × ReadsTo n bytes state place rest)

-- the bytes are good up to a position, at which no whole frame begins, for this reason
pub record LacksFrame (n : ℕ) (bytes : List ℕ) (at : ℕ) (why : Stop) : Type 0 where
  pub place : Place
  pub rest : List ℕ
  pub good : IsGoodUpTo n bytes place rest
  pub at_is : at ≡ place.at
  pub stop : frame_at place rest ≡ Err why

-- the header is followed by a rest that is torn
pub record LacksBase (n : ℕ) (bytes : List ℕ) : Type 0 where
  pub rest : List ℕ
  pub header_is : bytes ≡ header n ++ rest
  pub stop : frame_at (first_place n) rest ≡ Err Torn

-- the header is followed by a whole frame
pub record HasFirstFrame (n : ℕ) (bytes : List ℕ) : Type 0 where
  pub rest : List ℕ
  pub header_is : bytes ≡ header n ++ rest
  pub body : List ℕ
  pub left : List ℕ
  pub whole : frame_at (first_place n) rest ≡ Ok (body, left)

-- the header is followed by a whole frame, at this position, whose body has an error as a base
pub record HasBadBase (n : ℕ) (bytes : List ℕ) (at : ℕ) (e : BaseError) : Type 0 where
  pub first : HasFirstFrame n bytes
  pub at_is : at ≡ (first_place n).at
  pub error : IsBaseError n first.body e
  pub of_bytes : e ≢ Memory alloc_error

-- the bytes are a log up to a position, at which a whole frame begins, whose body has an error as the next entry
pub record HasBadEntry (n : ℕ) (bytes : List ℕ) (at : ℕ) (e : EntryError) : Type 0 where
  pub state : Kept
  pub place : Place
  pub rest : List ℕ
  pub reads : ReadsTo n bytes state place rest
  pub at_is : at ≡ place.at
  pub body : List ℕ
  pub left : List ℕ
  pub whole : frame_at place rest ≡ Ok (body, left)
  pub error : IsEntryError n state body e

-- bytes have this damage at a position, and none before it
abbrev pub IsDamage : ℕ → List ℕ → ℕ → Damage → Type 0
IsDamage n bytes at damages.Head = LacksFrame n bytes at BadHead
IsDamage n bytes at damages.Digest = LacksFrame n bytes at BadDigest
IsDamage n bytes at (damages.Base e) = HasBadBase n bytes at e
IsDamage n bytes at (damages.Entry e) = HasBadEntry n bytes at e

-- why bytes are not recovered: an error of the header, no base, damage at a position, or an allocation that failed, which is after the first frame
abbrev pub IsRecoverError : ℕ → List ℕ → RecoverError → Type 0
IsRecoverError n bytes (recover_errors.Header e) = header_at n bytes ≡ Err e
IsRecoverError n bytes recover_errors.NoBase = LacksBase n bytes
IsRecoverError n bytes (recover_errors.Damaged at damage) = IsDamage n bytes at damage
IsRecoverError n bytes (recover_errors.Memory e) = HasFirstFrame n bytes
