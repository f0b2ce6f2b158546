-- A log that is replaced by the history of the bitmap. A chunk has n bytes.
use Rattle.std.specs.Prelude.{◌⊎◌, ◌≡◌, ℕ, ◌*◌, Bool, List, ◌∷◌, [], ◌++◌, length, nat_lt}
use Rattle.commit_log.specs.Base.{Base}
use Rattle.commit_log.specs.Entries.{Entry}
use Rattle.commit_log.specs.History.{HasLog, IsHistory, history_base, history_bytes, history_entries}
use Rattle.commit_log.specs.Kept.{Kept}
use Rattle.log_store.specs.Gate.{closed}
use Rattle.log_store.specs.Store.{IsStored, IsTornLog}
use Rattle.log_store.specs.declared.device.Device.{Ghosts}
use Rattle.log_store.specs.declared.stored_log.StoredLog.{StoredLog}

-- a log on a device is the history of a state, all of which is kept
abbrev pub IsCompacted : {D : Type 0} → ℕ → Ghosts D → Kept → StoredLog D → Type 0
IsCompacted n g s log = IsStored n g (history_base s) (history_entries n s)
    (length (history_entries n s)) s log

-- bytes are the history of a state and a closed gate, and the history is a log that makes the state
abbrev pub IsReplacement : ℕ → Kept → List ℕ → Type 0
IsReplacement n s c = HasLog n s × IsHistory s × (c ≡ history_bytes n s ++ closed ∷ [])

-- what a crash leaves while a log is replaced by the history of a state: what it may leave of the log, or the whole history and a closed gate
abbrev pub IsCompacting : ℕ → Base → List Entry → ℕ → Kept → List ℕ → Type 0
IsCompacting n base begun kept s c = IsTornLog n base begun kept c ⊎ IsReplacement n s c

-- whether a log of so many bytes has more than twice those of the history of a state
abbrev pub is_grown : ℕ → Kept → ℕ → Bool
is_grown n s bytes = nat_lt (2 * length (history_bytes n s)) bytes
