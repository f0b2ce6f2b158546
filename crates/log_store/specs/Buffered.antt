-- A store whose entries wait in memory until they are written. A chunk has n bytes.
use Rattle.std.specs.Prelude.{◌≡◌, ℕ, ◌+◌, ◌^◌, ◌<◌, false, List, ◌++◌, length, map, take}
use Rattle.commit_log.specs.Base.{Base}
use Rattle.commit_log.specs.Entries.{Entry, encode_entry}
use Rattle.commit_log.specs.Kept.{Kept}
use Rattle.commit_log.specs.Logs.{IsLog, LogView, place_of, state_of}
use Rattle.log_frames.specs.Frames.{frames}
use Rattle.log_store.specs.Store.{IsStored}
use Rattle.log_store.specs.declared.device.Device.{Ghosts}
use Rattle.log_store.specs.declared.stored_log.StoredLog.{StoredLog}

-- entries that wait to be written after those of a log: with them it is a log and makes this state, the bytes are their frames, few enough for a gate, and the place is the one after them
pub record IsWaiting (n : ℕ) (base : Base) (begun waiting : List Entry) (state : Kept)
    (held : LogView) : Type 0 where
  pub log_is : IsLog n base (begun ++ waiting)
  pub state_is : state ≡ state_of n base (begun ++ waiting)
  pub bytes : held.bytes ≡ frames (place_of n base begun) (map encode_entry waiting)
  pub place : held.place ≡ place_of n base (begun ++ waiting)
  pub few : length held.bytes + 1 < 2 ^ 56

-- a log on a device, and entries that wait: so many first ones of the entries that were begun are kept, and a crash leaves these and none that waits; as long as the log is written to, the waiting entries go on with it and make the state
pub record IsBuffered {D : Type 0} (n : ℕ) (g : Ghosts D) (base : Base) (begun : List Entry)
    (kept : ℕ) (waiting : List Entry) (state : Kept) (log : StoredLog D)
    (held : LogView) : Type 0 where
  pub stored : IsStored n g base begun kept (state_of n base (take kept begun)) log
  pub waits : log.is_read_only ≡ false → IsWaiting n base begun waiting state held
