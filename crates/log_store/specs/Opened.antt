-- Stores that are created, and opened again. A chunk has n bytes.
use Rattle.std.specs.Prelude.{◌≡◌, ◌⊎◌, ℕ, ◌<◌, ◌≤◌, false, List, [], ◌∷◌, ◌++◌, length, take, alloc_error}
use Rattle.log_frames.specs.declared.frame.Place.{Place}
use Rattle.commit_log.specs.Base.{Base}
use Rattle.commit_log.specs.Entries.{Entry}
use Rattle.commit_log.specs.Kept.{Kept}
use Rattle.commit_log.specs.Logs.{IsLog, log_bytes, place_of, state_of}
use Rattle.commit_log.specs.Recovered.{IsRecoverError, ReadsTo}
use Rattle.commit_log.specs.declared.base.Past.TheVariants.{NoCommit}
use Rattle.commit_log.specs.declared.recovery.RecoverError.TheVariants as recover_errors
use Rattle.log_store.specs.Device.{IsFailed}
use Rattle.log_store.specs.Gate.{IsShut, IsUnfinished, closed}
use Rattle.log_store.specs.Moments.{IsAtRest}
use Rattle.log_store.specs.Store.{IsStored, IsTornLog}
use Rattle.log_store.specs.declared.device.Device.{Ghosts}
use Rattle.log_store.specs.declared.opening.CreateError.{CreateError}
use Rattle.log_store.specs.declared.opening.CreateError.TheVariants as create_errors
use Rattle.log_store.specs.declared.opening.OpenError.{OpenError}
use Rattle.log_store.specs.declared.opening.OpenError.TheVariants.{Log, Device}
use Rattle.log_store.specs.declared.stored_log.StoredLog.{StoredLog}

-- the base of a new store: no bits, and no commit
abbrev pub empty_base : Base
empty_base = record { bits = record { pruned = 0; bits = [] }; past = NoCommit }

-- ---- creating

-- bytes that begin with no header of a log: there are too few, or their first byte is a closed gate
abbrev pub HasNoHeader : List ℕ → Type 0
HasNoHeader bytes = (length bytes < 32) ⊎ IsShut bytes

-- what a crash leaves while bytes are written to an empty device: one byte at most, or a closed gate and any further bytes, or all of them
abbrev pub IsBegun : List ℕ → List ℕ → Type 0
IsBegun bytes c = (length c ≤ 1) ⊎ (IsShut c ⊎ (c ≡ bytes))

-- what a crash leaves while a store is created on an empty device: no header, or the whole store, without bits and commits
abbrev pub IsNewStore : ℕ → List ℕ → Type 0
IsNewStore n c = HasNoHeader c ⊎ (c ≡ log_bytes n empty_base [] ++ closed ∷ [])

-- what an error leaves of a device on which a store was to be created: it is as it was, or the device failed
abbrev pub LeavesUncreated : {D : Type 0} → Ghosts D → D → CreateError → D → Type 0
LeavesUncreated g old create_errors.NotEmpty new = IsAtRest g new × (g.seen new ≡ g.seen old)
    × (0 < length (g.seen old))
LeavesUncreated g old (create_errors.Memory e) new = IsAtRest g new × (g.seen new ≡ g.seen old)
LeavesUncreated g old (create_errors.Device e) new = IsFailed e → g.faults old < g.faults new

-- ---- opening

-- bytes are those of a log that makes this state and ends at this place, and then of a frame that is not finished, if any
pub record ReadsUpTo (n : ℕ) (bytes : List ℕ) (state : Kept) (place : Place) : Type 0 where
  pub rest : List ℕ
  pub reads : ReadsTo n bytes state place rest
  pub unfinished : IsUnfinished place rest

-- what bytes are opened to: they are read up to this state, a closed gate is in the place of the bytes after its last entry, and the log can be written to
pub record Opens {D : Type 0} (n : ℕ) (g : Ghosts D) (bytes : List ℕ) (state : Kept)
    (log : StoredLog D) : Type 0 where
  pub reads : ReadsUpTo n bytes state log.place
  pub good : log.place.at ≤ length bytes
  pub rest : IsAtRest g log.device
  pub bytes_are : g.seen log.device ≡ take log.place.at bytes ++ closed ∷ []
  pub written : log.is_read_only ≡ false

-- a log is opened with some first entries of a log, at least so many, all of which are kept
pub record OpensTo {D : Type 0} (n : ℕ) (g : Ghosts D) (base : Base) (entries : List Entry)
    (kept : ℕ) (state : Kept) (log : StoredLog D) : Type 0 where
  pub count : ℕ
  pub least_is : kept ≤ count
  pub within : count ≤ length entries
  pub stored : IsStored n g base (take count entries) count state log

-- bytes are what a crash may leave of the log of these entries, all of which are kept
abbrev pub IsTornAfter : ℕ → Base → List Entry → List ℕ → Type 0
IsTornAfter n base entries bytes = IsLog n base entries
    × IsTornLog n base entries (length entries) bytes

-- a log is opened with these entries, all of which are kept
abbrev pub IsOpenedWith : {D : Type 0} → ℕ → Ghosts D → Base → List Entry → Kept → StoredLog D
    → Type 0
IsOpenedWith n g base entries state log = IsStored n g base entries (length entries) state log

-- bytes are read up to the state after some first entries of a log, at least so many
pub record RecoversTo (n : ℕ) (base : Base) (entries : List Entry) (kept : ℕ)
    (bytes : List ℕ) : Type 0 where
  pub count : ℕ
  pub least_is : kept ≤ count
  pub within : count ≤ length entries
  pub reads : ReadsUpTo n bytes (state_of n base (take count entries))
      (place_of n base (take count entries))

-- what an error leaves of a device that was to be opened: it is as it was if its bytes are not recovered, for this reason, or the device failed
abbrev pub LeavesUnopened : {D : Type 0} → ℕ → Ghosts D → D → OpenError → D → Type 0
LeavesUnopened n g old (Log e) new =
    IsAtRest g new × (g.seen new ≡ g.seen old) × IsRecoverError n (g.seen old) e
LeavesUnopened n g old (Device e) new = IsFailed e → g.faults old < g.faults new

-- an error of the device, or an allocation that failed: the bytes are not the cause
abbrev pub IsPassing : OpenError → Type 0
IsPassing (Log e) = e ≡ recover_errors.Memory alloc_error
IsPassing (Device e) = Unit {0}
