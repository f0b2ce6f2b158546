-- A session with its log: the entries of a command, and the log that the bytes of a session are. A chunk has n bytes.
use Rattle.std.specs.Prelude.{◌≡◌, ◌⊎◌, ℕ, Bool, true, false, if◌then◌else◌, List, [], ◌∷◌, ◌++◌, OnErr, OnOk, Result}
use Rattle.commit_log.specs.Base.{Base}
use Rattle.commit_log.specs.Entries.{Entry}
use Rattle.commit_log.specs.Kept.{after, after_all, change_to, entry_to}
use Rattle.commit_log.specs.Logs.{GoesOn, IsLog, LogView, MayFollow, appended, log_bytes, place_of, state_of}
use Rattle.bitmap_session.specs.declared.command.Command.{Command}
use Rattle.bitmap_session.specs.declared.command.Command.TheVariants.{Start, Begin, Push, PushByte, PushChunk, Pop, Set, Prune, Commit, Abort, Rewind, Len, PrunedChunks, Get, Chunk, Ones, Encode, At, OnesAt, EncodeAt, Decode, Commits, Exists, Latest, Earliest, DropBefore, Clear, Entries}
use Rattle.bitmap_session.specs.declared.session.entries.LogError.{LogError}
use Rattle.bitmap_session.specs.declared.session.entries.LogError.TheVariants as errors
use Rattle.bitmap_session.specs.Machine.{Agrees, Machine, State, StepTo, is_dirty, shown}
use Rattle.bitmap_session.specs.Replies.{ReplyValue, ReplyValue as replies}
use Rattle.bitmap_session.specs.Saved.{AppliesDelta, kept_part}
use Rattle.bitmap_session.specs.declared.session.saved.ApplyDeltaError.{ApplyDeltaError}

-- a session with its log: the machine of the session, and what was appended to the log and not taken from it yet
pub record LoggedView : Type 0 where
  pub machine : Machine
  pub log : LogView

-- ---- the entries of a command

-- whether a reply is a refusal
abbrev pub is_refused : ReplyValue → Bool
is_refused replies.Done = false
is_refused (replies.Bit bit) = false
is_refused (replies.Number number) = false
is_refused (replies.Wide number) = false
is_refused (replies.Chunk bytes) = false
is_refused (replies.Maybe number) = false
is_refused (replies.Positions positions) = false
is_refused (replies.Bytes bytes) = false
is_refused (replies.Snapshot bitmap) = false
is_refused (replies.Read bitmap left) = false
is_refused (replies.Refused refusal) = true

-- the entries of an accepted command: one for a commit, a rewind, a drop or a clear, and none for any other
abbrev pub accepted_entries : (n : ℕ) → State → Command n → List Entry
accepted_entries n s (Commit number) = Entry.Commit (change_to n number s.current (shown s)) ∷ []
accepted_entries n s (Rewind number) = Entry.Rewind number ∷ []
accepted_entries n s (DropBefore number) = Entry.DropBefore number ∷ []
accepted_entries n s Clear = Entry.Clear ∷ []
accepted_entries n s (Start chunks) = []
accepted_entries n s Begin = []
accepted_entries n s (Push value) = []
accepted_entries n s (PushByte byte) = []
accepted_entries n s (PushChunk bytes) = []
accepted_entries n s Pop = []
accepted_entries n s (Set position value) = []
accepted_entries n s (Prune position) = []
accepted_entries n s Abort = []
accepted_entries n s Len = []
accepted_entries n s PrunedChunks = []
accepted_entries n s (Get position) = []
accepted_entries n s (Chunk position) = []
accepted_entries n s (Ones from to) = []
accepted_entries n s Encode = []
accepted_entries n s (At number) = []
accepted_entries n s (OnesAt number from to) = []
accepted_entries n s (EncodeAt number) = []
accepted_entries n s (Decode input range) = []
accepted_entries n s Commits = []
accepted_entries n s (Exists number) = []
accepted_entries n s Latest = []
accepted_entries n s Earliest = []
accepted_entries n s Entries = []

-- the entries of a command with this reply: those of the accepted command, or none if the reply is a refusal
abbrev pub entries_of : (n : ℕ) → State → Command n → ReplyValue → List Entry
entries_of n s command reply = if is_refused reply then [] else accepted_entries n s command

-- a log after entries are appended to it, the first of them first
abbrev pub appended_all : LogView → List Entry → LogView
appended_all log [] = log
appended_all log (e ∷ es) = appended_all (appended log e) es

-- ---- what is served

-- a command with this reply makes of a session with its log another one: a step of the machine, and the entries of the command at the end of the log
pub record Serves (n : ℕ) (old : LoggedView) (command : Command n) (reply : ReplyValue)
    (new : LoggedView) : Type 0 where
  pub step : StepTo n Agrees old.machine command reply new.machine
  pub log : new.log ≡ appended_all old.log (entries_of n old.machine.state command reply)
  pub follows : GoesOn n (kept_part old.machine.state)
      (entries_of n old.machine.state command reply)
  pub kept : kept_part new.machine.state
      ≡ after_all n (kept_part old.machine.state) (entries_of n old.machine.state command reply)

-- a command drops commits: it is a drop or a clear
abbrev pub IsDrop : {n : ℕ} → Command n → Type 0
IsDrop command = ((number : ℕ) × (command ≡ DropBefore number)) ⊎ (command ≡ Clear)

-- why a command is not served: it is a start, or it drops commits outside a batch, and its entry was not appended
abbrev pub IsLogError : (n : ℕ) → Machine → Command n → LogError → Type 0
IsLogError n m command errors.NoEntry = (chunks : ℕ) × (command ≡ Start chunks)
IsLogError n m command (errors.Memory e) = IsDrop command × (is_dirty m.state ≡ false)

-- what applying bytes as a delta makes of a session with its log: what it makes of the session alone, and the entry of the commit at the end of the log, or neither
pub record LogsDelta {T : Type 0} (n : ℕ) (bytes : List ℕ) (old : LoggedView)
    (r : Result T ApplyDeltaError) (new : LoggedView) : Type 0 where
  pub applied : AppliesDelta n bytes old.machine r new.machine
  pub log : OnOk r (new.log
      ≡ appended old.log (entry_to n (kept_part old.machine.state) (kept_part new.machine.state)))
  pub follows : OnOk r (MayFollow n (kept_part old.machine.state)
      (entry_to n (kept_part old.machine.state) (kept_part new.machine.state)))
  pub kept : OnOk r (kept_part new.machine.state
      ≡ after n (kept_part old.machine.state)
      (entry_to n (kept_part old.machine.state) (kept_part new.machine.state)))
  pub unlogged : OnErr r (new.log ≡ old.log)

-- ---- what is logged

-- the bytes that were taken from a log and those that were not are a log, which makes what the session keeps and ends at the place of its log
pub record IsLogged (n : ℕ) (taken : List ℕ) (v : LoggedView) : Type 0 where
  pub base : Base
  pub entries : List Entry
  pub log : IsLog n base entries
  pub bytes : taken ++ v.log.bytes ≡ log_bytes n base entries
  pub place : v.log.place ≡ place_of n base entries
  pub kept : kept_part v.machine.state ≡ state_of n base entries

-- a recovered session keeps what another one keeps, its log is at the same place with no bytes, and no bytes were torn
pub record IsRecovered (v found : LoggedView) (torn : Bool) : Type 0 where
  pub kept : kept_part found.machine.state ≡ kept_part v.machine.state
  pub place : found.log.place ≡ v.log.place
  pub bytes : found.log.bytes ≡ []
  pub whole : torn ≡ false
