-- What bytes are read to as a history, and why they are not. A chunk has n bytes.
use Rattle.std.specs.Prelude.{◌≡◌, ◌≢◌, ◌⊎◌, IsErrOf, ℕ, zero, suc, ◌+◌, ◌-◌, ◌*◌, ◌<◌, Bool, true, false, List, [], ◌∷◌, ◌++◌, length, Result, Ok, Err, None, alloc_error}
use Rattle.std.specs.List.{AllByRecursion}
use Rattle.bitmap_core.specs.Decoding.{admits}
use Rattle.bitmap_core.specs.declared.bitmap.codec.range.RangeCfg.{RangeCfg}
use Rattle.log_frames.specs.Frames.{frame_at}
use Rattle.log_frames.specs.Header.{first_place, header, header_at}
use Rattle.log_frames.specs.declared.frame.Place.{Place}
use Rattle.log_frames.specs.declared.frame.Stop.{Stop}
use Rattle.log_frames.specs.declared.frame.Stop.TheVariants.{Torn, BadHead, BadDigest}
use Rattle.commit_log.specs.Accepted.{Accepts, IsChangeError}
use Rattle.commit_log.specs.Base.{Base, FitsBase, IsBaseErrorWithin, base_error, encode_base, past_count}
use Rattle.commit_log.specs.Entries.{Change, Entry, decode_change}
use Rattle.commit_log.specs.Entries.Entry.{Commit, Rewind, DropBefore, Clear}
use Rattle.commit_log.specs.History.{IsHistory, history_base, history_bytes, history_entries}
use Rattle.commit_log.specs.Kept.{Kept}
use Rattle.commit_log.specs.Logs.{IsLog}
use Rattle.commit_log.specs.Recovered.{HasFirstFrame, MakesNext, ReadsTo}
use Rattle.commit_log.specs.declared.base.BaseError.{BaseError}
use Rattle.commit_log.specs.declared.base.BaseError.TheVariants.{Memory}
use Rattle.commit_log.specs.declared.entry.DecodeError.{DecodeError}
use Rattle.commit_log.specs.declared.entry.DecodeError.TheVariants.{Kind}
use Rattle.commit_log.specs.declared.error.EntryError.{EntryError}
use Rattle.commit_log.specs.declared.error.EntryError.TheVariants as errors
use Rattle.commit_log.specs.declared.reading.HistoryError.{HistoryError}
use Rattle.commit_log.specs.declared.reading.HistoryError.TheVariants as history_errors

-- ---- what a reader admits

-- which numbers of retained bits of a state, and which numbers of commits, a reader admits
pub record Ranges : Type 0 where
  pub bits : ℕ → Bool
  pub commits : ℕ → Bool

-- the numbers that two ranges admit
abbrev pub ranges : RangeCfg → RangeCfg → Ranges
ranges bits commits = record { bits = admits bits; commits = admits commits }

-- the number of bits that are retained after a change
abbrev pub retained_after : ℕ → Change → ℕ
retained_after n c = c.len - 8 * n * c.pruned

-- an entry that a history may have: a commit, and the number of bits that are retained after it is admitted
abbrev pub IsCommitWithin : ℕ → (ℕ → Bool) → Entry → Type 0
IsCommitWithin n range (Commit c) = range (retained_after n c) ≡ true
IsCommitWithin n range (Rewind number) = ⊥
IsCommitWithin n range (DropBefore number) = ⊥
IsCommitWithin n range Clear = ⊥

-- the number of retained bits of the current state and of each kept one, and the number of commits of the history, are admitted
pub record IsWithin (r : Ranges) (s : Kept) : Type 0 where
  pub current : r.bits (length s.current.bits) ≡ true
  pub kept : AllByRecursion (λ kept. r.bits (length kept.1.bits) ≡ true) s.history
  pub count : r.commits (past_count (history_base s).past) ≡ true

-- ---- what is read

-- the bytes are the history of a state, and then a rest; the numbers of the state are admitted
pub record BeginsWithHistory (n : ℕ) (r : Ranges) (bytes : List ℕ) (s : Kept)
    (rest : List ℕ) : Type 0 where
  pub whole : bytes ≡ history_bytes n s ++ rest
  pub log : IsLog n (history_base s) (history_entries n s)
  pub ends : IsHistory s
  pub within : IsWithin r s

-- the change of the commit that a body encodes, or the first error: any other body has the error of its kind
unfoldable pub decode_commit : ℕ → List ℕ → Result Change DecodeError
decode_commit n [] = Err Kind
decode_commit n (zero ∷ rest) = Err Kind
decode_commit n (suc zero ∷ rest) = decode_change n rest
decode_commit n (suc (suc kind) ∷ rest) = Err Kind

-- the bytes are those of a log of a base and commits, all admitted, that makes this state and ends at this place, and then a rest; the base counts this number of commits more
pub record ReadsPart (n : ℕ) (r : Ranges) (bytes : List ℕ) (state : Kept) (place : Place) (left : ℕ)
    (rest : List ℕ) : Type 0 where
  pub reads : ReadsTo n bytes state place rest
  pub bits : r.bits (length reads.base.bits.bits) ≡ true
  pub count : r.commits (past_count reads.base.past) ≡ true
  pub commits : AllByRecursion (IsCommitWithin n r.bits) reads.entries
  pub left_is : length reads.entries + left ≡ past_count reads.base.past

-- a body encodes a commit that a history may have, and that makes of a state another one
pub record CommitsNext (n : ℕ) (range : ℕ → Bool) (state : Kept) (body : List ℕ)
    (new : Kept) : Type 0 where
  pub next : MakesNext n state body new
  pub within : IsCommitWithin n range next.entry

-- ---- why bytes are not read

-- the error of a history in which a frame is not whole, for this reason
abbrev pub stop_error : Stop → HistoryError
stop_error Torn = history_errors.Short
stop_error BadHead = history_errors.BadHead
stop_error BadDigest = history_errors.BadDigest

-- the bytes are good up to a rest, with which a frame of a history is to begin at this place: that of the base, or that of a commit
abbrev pub IsGoodPart : ℕ → Ranges → List ℕ → Place → List ℕ → Type 0
IsGoodPart n r bytes place rest =
    ((bytes ≡ header n ++ rest) × (place ≡ first_place n))
    ⊎ ((state : Kept) × (left : ℕ) × (0 < left) × ReadsPart n r bytes state place left rest)

-- no whole frame begins where one is to begin, for this reason
pub record LacksPart (n : ℕ) (r : Ranges) (bytes : List ℕ) (why : Stop) : Type 0 where
  pub place : Place
  pub rest : List ℕ
  pub good : IsGoodPart n r bytes place rest
  pub stop : frame_at place rest ≡ Err why

-- the header is followed by a whole frame, whose body has this error as a base
pub record HasBaseError (n : ℕ) (r : Ranges) (bytes : List ℕ) (e : BaseError) : Type 0 where
  pub first : HasFirstFrame n bytes
  pub error : IsBaseErrorWithin n r.bits first.body e
  pub of_bytes : e ≢ Memory alloc_error

-- the header is followed by a whole frame, whose body has no error as a base
pub record HasBase (n : ℕ) (r : Ranges) (bytes : List ℕ) : Type 0 where
  pub first : HasFirstFrame n bytes
  pub none : base_error n r.bits first.body ≡ None

-- the header is followed by the frame of a base, whose count is this number, which is not admitted
pub record HasOtherCount (n : ℕ) (r : Ranges) (bytes : List ℕ) (count : ℕ) : Type 0 where
  pub first : HasFirstFrame n bytes
  pub base : Base
  pub encoded : first.body ≡ encode_base n base
  pub fits : FitsBase n base
  pub bits : r.bits (length base.bits.bits) ≡ true
  pub count_is : count ≡ past_count base.past
  pub not_admitted : r.commits count ≡ false

-- a body encodes a commit whose change has this error after a state
abbrev pub HasCommitError : ℕ → Kept → List ℕ → EntryError → Type 0
HasCommitError n s body e =
    (c : Change) × (decode_commit n body ≡ Ok c) × IsChangeError n s.current s.last c e

-- why the commit in a body is not accepted by a state, or the body encodes none
abbrev pub IsCommitError : ℕ → Kept → List ℕ → EntryError → Type 0
IsCommitError n s body (errors.Decode e) = decode_commit n body ≡ Err e
IsCommitError n s body errors.Number = HasCommitError n s body errors.Number
IsCommitError n s body errors.Length = HasCommitError n s body errors.Length
IsCommitError n s body errors.Chunks = HasCommitError n s body errors.Chunks
IsCommitError n s body errors.NoSuchCommit = ⊥

-- a body encodes a commit that a state accepts, and after it this number of bits is retained, which is not admitted
pub record HasOtherBits (n : ℕ) (range : ℕ → Bool) (s : Kept) (body : List ℕ)
    (len : ℕ) : Type 0 where
  pub change : Change
  pub decoded : decode_commit n body ≡ Ok change
  pub accepted : Accepts n s (Commit change)
  pub len_is : len ≡ retained_after n change
  pub not_admitted : range len ≡ false

-- why a history does not go on with a body after a state, or an allocation failed
abbrev pub IsNextError : ℕ → (ℕ → Bool) → Kept → List ℕ → HistoryError → Type 0
IsNextError n range s body (history_errors.Header e) = ⊥
IsNextError n range s body history_errors.Short = ⊥
IsNextError n range s body history_errors.BadHead = ⊥
IsNextError n range s body history_errors.BadDigest = ⊥
IsNextError n range s body (history_errors.Base e) = ⊥
IsNextError n range s body (history_errors.Count count) = ⊥
IsNextError n range s body (history_errors.Entry e) = IsCommitError n s body e
IsNextError n range s body (history_errors.Bits len) = HasOtherBits n range s body len
IsNextError n range s body (history_errors.Memory e) = Unit {0}

-- the bytes are good up to a whole frame, whose body is to be the next commit of a history, and has this error as that
pub record HasNextError (n : ℕ) (r : Ranges) (bytes : List ℕ) (e : HistoryError) : Type 0 where
  pub state : Kept
  pub place : Place
  pub left : ℕ
  pub rest : List ℕ
  pub some : 0 < left
  pub reads : ReadsPart n r bytes state place left rest
  pub body : List ℕ
  pub after : List ℕ
  pub whole : frame_at place rest ≡ Ok (body, after)
  pub error : IsNextError n r.bits state body e

-- why bytes are not read as a history: the first error; an allocation fails only after a base was read
abbrev pub IsHistoryError : ℕ → Ranges → List ℕ → HistoryError → Type 0
IsHistoryError n r bytes (history_errors.Header e) = header_at n bytes ≡ Err e
IsHistoryError n r bytes history_errors.Short = LacksPart n r bytes Torn
IsHistoryError n r bytes history_errors.BadHead = LacksPart n r bytes BadHead
IsHistoryError n r bytes history_errors.BadDigest = LacksPart n r bytes BadDigest
IsHistoryError n r bytes (history_errors.Base e) = HasBaseError n r bytes e
IsHistoryError n r bytes (history_errors.Count count) = HasOtherCount n r bytes count
IsHistoryError n r bytes (history_errors.Entry e) = HasNextError n r bytes (history_errors.Entry e)
IsHistoryError n r bytes (history_errors.Bits len) =
    HasNextError n r bytes (history_errors.Bits len)
IsHistoryError n r bytes (history_errors.Memory e) = HasBase n r bytes

-- a history that is cut off after its header was not read: a frame is not whole, unless an allocation failed
abbrev pub IsCutOff : {X : Type 0} → Result X HistoryError → Type 0
IsCutOff result = IsErrOf result history_errors.Short
    ⊎ IsErrOf result (history_errors.Memory alloc_error)
