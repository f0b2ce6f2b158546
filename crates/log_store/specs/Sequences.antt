-- Calls of a store in a row, with compactions among them: the states that they have begun to make, and what a crash leaves. A chunk has n bytes.
use Rattle.std.specs.Prelude.{◌≡◌, ◌⊎◌, ℕ, false, List, [], ◌∷◌, ◌++◌, length, Contains}
use Rattle.log_frames.specs.declared.frame.Place.{Place}
use Rattle.commit_log.specs.Base.{Base}
use Rattle.commit_log.specs.Entries.{Entry}
use Rattle.commit_log.specs.Kept.{Kept, after}
use Rattle.log_store.specs.Moments.{LeavesOnly}
use Rattle.log_store.specs.Opened.{ReadsUpTo}
use Rattle.log_store.specs.Store.{IsStored}
use Rattle.log_store.specs.declared.device.Device.{Ghosts}
use Rattle.log_store.specs.declared.stored_log.StoredLog.{StoredLog}

-- the states that entries make one after another, each of the one before it
abbrev pub states_after : ℕ → Kept → List Entry → List Kept
states_after n s [] = []
states_after n s (e ∷ es) = after n s e ∷ states_after n (after n s e) es

-- bytes are read up to one of some states
pub record ReadsToOneOf (n : ℕ) (states : List Kept) (bytes : List ℕ) : Type 0 where
  pub state : Kept
  pub place : Place
  pub among : Contains states state
  pub reads : ReadsUpTo n bytes state place

-- a log on a device has some base and some entries, all of which are kept, and they make this state
pub record HasState {D : Type 0} (n : ℕ) (g : Ghosts D) (state : Kept)
    (log : StoredLog D) : Type 0 where
  pub base : Base
  pub entries : List Entry
  pub stored : IsStored n g base entries (length entries) state log

-- what calls made of a device: a log on it, whose state is one of those that the calls have begun to make, and which is stored as long as it is written to; and a crash at any moment of the calls left one of these states
pub record IsSequence {D : Type 0} (n : ℕ) (g : Ghosts D) (old : D) (states : List Kept)
    (state : Kept) (new : StoredLog D) : Type 0 where
  pub among : Contains states state
  pub stored : new.is_read_only ≡ false → HasState n g state new
  pub any_moment : LeavesOnly g old new.device (ReadsToOneOf n states)

-- a sequence goes on with a call that appends an entry, or fails to: it has begun no other state, or the one that the entry makes
abbrev pub GoesOnWith : {D : Type 0} → ℕ → Ghosts D → D → List Kept → Kept → Entry → Kept
    → StoredLog D → Type 0
GoesOnWith n g old states state e later new =
    IsSequence n g old states later new
    ⊎ IsSequence n g old (states ++ after n state e ∷ []) later new
