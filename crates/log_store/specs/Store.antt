-- A log on a device: its entries that were begun, those of them that are kept, and what a crash leaves of it. A chunk has n bytes.
use Rattle.std.specs.Prelude.{◌≡◌, ◌⊎◌, ℕ, ◌+◌, ◌<◌, ◌≤◌, true, false, List, [], ◌∷◌, ◌++◌, length, take, Option, Some, None, alloc_error}
use Rattle.historical_bitmap.specs.declared.bitmap.historical.error.Error.{Error as CommitError}
use Rattle.commit_log.specs.Base.{Base}
use Rattle.commit_log.specs.Entries.{Entry}
use Rattle.commit_log.specs.Kept.{Kept}
use Rattle.commit_log.specs.Logs.{IsLog, log_bytes, place_of, state_of}
use Rattle.log_store.specs.Device.{IsFailed}
use Rattle.log_store.specs.Gate.{IsUnfinished, closed}
use Rattle.log_store.specs.Moments.{IsAtRest, LeavesOnly}
use Rattle.log_store.specs.declared.device.Device.{Ghosts}
use Rattle.log_store.specs.declared.error.StoreError.{StoreError}
use Rattle.log_store.specs.declared.error.StoreError.TheVariants.{ReadOnly, Number, NoSuchCommit, Memory, Device, NotApplied}
use Rattle.log_store.specs.declared.stored_log.StoredLog.{StoredLog}

-- what a crash may leave of a log of which so many first entries are kept: the bytes of a log with these, or with these and some that follow, and then of a frame that is not finished, if any
pub record IsTornLog (n : ℕ) (base : Base) (entries : List Entry) (kept : ℕ)
    (c : List ℕ) : Type 0 where
  pub count : ℕ
  pub least_is : kept ≤ count
  pub within : count ≤ length entries
  pub rest : List ℕ
  pub is : c ≡ log_bytes n base (take count entries) ++ rest
  pub unfinished : IsUnfinished (place_of n base (take count entries)) rest

-- a device has the bytes of a log with these entries and a closed gate, all of which are kept, and the place after the entries is known
pub record IsWhole {D : Type 0} (n : ℕ) (g : Ghosts D) (base : Base) (entries : List Entry)
    (log : StoredLog D) : Type 0 where
  pub rest : IsAtRest g log.device
  pub bytes : g.seen log.device ≡ log_bytes n base entries ++ closed ∷ []
  pub place : log.place ≡ place_of n base entries

-- a log on a device: of the entries that were begun, so many first ones are kept, and these make the state; a crash leaves all of these; and as long as the log is written to, all entries that were begun are kept
pub record IsStored {D : Type 0} (n : ℕ) (g : Ghosts D) (base : Base) (begun : List Entry)
    (kept : ℕ) (state : Kept) (log : StoredLog D) : Type 0 where
  pub log_is : IsLog n base begun
  pub within : kept ≤ length begun
  pub state_is : state ≡ state_of n base (take kept begun)
  pub works : g.behaves log.device
  pub crash : (c : List ℕ) → g.may_leave log.device c → IsTornLog n base begun kept c
  pub written : log.is_read_only ≡ false → (kept ≡ length begun) × IsWhole n g base begun log

-- what calls made of a log on a device: they began further entries, no fewer entries are kept than before, and a crash at any moment of the calls left all entries that were kept before
pub record Becomes {D : Type 0} (n : ℕ) (g : Ghosts D) (base : Base) (begun : List Entry) (kept : ℕ)
    (old : StoredLog D) (further : List Entry) (now_kept : ℕ) (state : Kept)
    (new : StoredLog D) : Type 0 where
  pub stored : IsStored n g base (begun ++ further) now_kept state new
  pub rises : kept ≤ now_kept
  pub any_moment : LeavesOnly g old.device new.device (IsTornLog n base (begun ++ further) kept)

-- a call has appended an entry, and the entry is kept
abbrev pub Keeps : {D : Type 0} → ℕ → Ghosts D → Base → List Entry → ℕ → StoredLog D → Entry → Kept
    → StoredLog D → Type 0
Keeps n g base begun kept old e state new =
    Becomes n g base begun kept old (e ∷ []) (kept + 1) state new

-- a call that failed has begun to append these entries or has not, and the state is as it was
abbrev pub FailsToAppend : {D : Type 0} → ℕ → Ghosts D → Base → List Entry → ℕ → StoredLog D
    → List Entry → Kept → StoredLog D → Type 0
FailsToAppend n g base begun kept old entries state new =
    Becomes n g base begun kept old [] kept state new
    ⊎ Becomes n g base begun kept old entries kept state new

-- the same of one entry
abbrev pub Fails : {D : Type 0} → ℕ → Ghosts D → Base → List Entry → ℕ → StoredLog D → Entry → Kept
    → StoredLog D → Type 0
Fails n g base begun kept old e state new = FailsToAppend n g base begun kept old (e ∷ []) state new

-- the error of a commit that is refused: that of its number, or else an allocation failed
abbrev pub commit_refusal : Option CommitError → StoreError
commit_refusal (Some why) = Number why
commit_refusal None = Memory alloc_error

-- an error of a call that appends entries which the bitmap has accepted
abbrev pub IsAppendError : StoreError → Type 0
IsAppendError ReadOnly = Unit {0}
IsAppendError (Number e) = ⊥
IsAppendError NoSuchCommit = ⊥
IsAppendError (Memory e) = Unit {0}
IsAppendError (Device e) = Unit {0}
IsAppendError (NotApplied e) = ⊥

-- what an error leaves of a log: it is as it was if nothing was written, and read-only if something was; the device is not blamed for what it did not do
abbrev pub LeavesLog : {D : Type 0} → Ghosts D → StoredLog D → StoreError → StoredLog D → Type 0
LeavesLog g old ReadOnly new = (old.is_read_only ≡ true) × (new ≡ old)
LeavesLog g old (Number e) new = new ≡ old
LeavesLog g old NoSuchCommit new = new ≡ old
LeavesLog g old (Memory e) new = new ≡ old
LeavesLog g old (Device e) new =
    (new.is_read_only ≡ true)
    × (g.behaves old.device → IsFailed e → g.faults old.device < g.faults new.device)
LeavesLog g old (NotApplied e) new = new.is_read_only ≡ true
