-- What the calls do to a session that may keep a log of its commits. A chunk has n bytes.
use Rattle.std.specs.Prelude.{◌≡◌, ℕ, ◌<◌, List, [], ◌⊎◌, Option, None, Some, Result, Err, is_some, if◌then◌else◌, MatchOption}
use Rattle.std.specs.Option.{ok_or, option_map}
use Rattle.commit_log.specs.History.{history_bytes, history_place}
use Rattle.commit_log.specs.Kept.{after, entry_to}
use Rattle.commit_log.specs.Logs.{LogView, MayFollow, appended}
use Rattle.bitmap_session.specs.declared.command.Command.{Command}
use Rattle.bitmap_session.specs.declared.session.entries.LogError.{LogError}
use Rattle.bitmap_session.specs.Logged.{IsLogError, IsLogged, LoggedView}
use Rattle.bitmap_session.specs.Logged.{Serves as ServesWithEntry}
use Rattle.bitmap_session.specs.Machine.{Machine, Agrees, StepTo, wants_no_batch}
use Rattle.bitmap_session.specs.Replies.{ReplyValue}
use Rattle.bitmap_session.specs.Replies.ReplyValue.{Refused}
use Rattle.bitmap_session.specs.Replies.Refusal.{NoMemory}
use Rattle.bitmap_session.specs.Saved.{kept_part}
use Rattle.bitmap_c.specs.declared.any.AnySession.{AnySession}
use Rattle.bitmap_c.specs.Calls.{Serves}
use Rattle.bitmap_c.specs.Saved.{Applies}
use Rattle.bitmap_c.specs.Statuses.{refusal_status}
use Rattle.bitmap_c.specs.Widths.{KeepsLog, log_of, machine, width}

-- a machine with a log
abbrev pub logged : Machine → LogView → LoggedView
logged m log = record { machine = m; log = log }

-- ---- commands that have an entry

-- a session without a log makes one step. One with a log appends the entries of the command too; or neither is changed and the reply is that an allocation failed, if the command drops commits and its entry was not appended
unfoldable pub StepsLogged : (n : ℕ) → Machine → Option LogView → Command n → ReplyValue → Machine
    → Option LogView → Type 0
StepsLogged n old None command reply new new_log = StepTo n Agrees old command reply new
    × (new_log ≡ None)
StepsLogged n old (Some log) command reply new new_log =
    ((now : LogView) × (new_log ≡ Some now)
    × ServesWithEntry n (logged old log) command reply (logged new now))
    ⊎ ((new ≡ old) × (new_log ≡ Some log) × (reply ≡ Refused NoMemory)
    × ((e : LogError) × IsLogError n old command e))

-- the same, and the reply has the property
unfoldable pub ServesLogged : (n : ℕ) → Machine → Option LogView → Command n → (ReplyValue → Type 0)
    → Machine → Option LogView → Type 0
ServesLogged n old log command Says new new_log =
    (reply : ReplyValue) × StepsLogged n old log command reply new new_log × Says reply

-- the same of a session of any width, which is the same afterwards
unfoldable pub ServesAnyLogged : AnySession → ((n : ℕ) → Command n) → (ReplyValue → Type 0)
    → AnySession → Type 0
ServesAnyLogged old command Says new = (width new ≡ width old)
    × ServesLogged (width old) (machine old) (log_of old) (command (width old)) Says (machine new)
    (log_of new)

-- an empty handle stays empty, and Empty holds; the session of a full one makes one step, with its entry if it has a log
abbrev pub CallsLogged : Option AnySession → ((n : ℕ) → Command n) → (ReplyValue → Type 0) → Type 0
    → Option AnySession → Type 0
CallsLogged None command Says Empty new = (new ≡ None) × Empty
CallsLogged (Some old) command Says Empty new = (now : AnySession) × (new ≡ Some now)
    × ServesAnyLogged old command Says now

-- ---- a command that has no entry, but replaces what is kept

-- a session without a log makes one step, and the reply has the property; one with a log is unchanged, and Logged holds
unfoldable pub ServesUnlogged : (n : ℕ) → Machine → Option LogView → Command n
    → (ReplyValue → Type 0) → Type 0 → Machine → Type 0
ServesUnlogged n old None command Says Logged new = Serves n old command Says new
ServesUnlogged n old (Some log) command Says Logged new = (new ≡ old) × Logged

-- the same of a session of any width, which is the same afterwards, and so is the log
unfoldable pub ServesAnyUnlogged : AnySession → ((n : ℕ) → Command n) → (ReplyValue → Type 0)
    → Type 0 → AnySession → Type 0
ServesAnyUnlogged old command Says Logged new = KeepsLog old new
    × ServesUnlogged (width old) (machine old) (log_of old) (command (width old)) Says Logged
    (machine new)

-- an empty handle stays empty, and Empty holds; the session of a full one makes one step if it has no log
abbrev pub CallsUnlogged : Option AnySession → ((n : ℕ) → Command n) → (ReplyValue → Type 0)
    → (Empty Logged : Type 0) → Option AnySession → Type 0
CallsUnlogged None command Says Empty Logged new = (new ≡ None) × Empty
CallsUnlogged (Some old) command Says Empty Logged new =
    (now : AnySession) × (new ≡ Some now) × ServesAnyUnlogged old command Says Logged now

-- ---- a delta that is applied

-- a log has the entry by which a machine became another one
pub record EntersDelta (n : ℕ) (old : Machine) (log : LogView) (new : Machine)
    (now : LogView) : Type 0 where
  pub log_is : now ≡ appended log (entry_to n (kept_part old.state) (kept_part new.state))
  pub follows : MayFollow n (kept_part old.state)
      (entry_to n (kept_part old.state) (kept_part new.state))
  pub kept : kept_part new.state
      ≡ after n (kept_part old.state) (entry_to n (kept_part old.state) (kept_part new.state))

-- what a delta with this status does to the log of a session: with DONE the log gets the entry of the commit, and otherwise it is unchanged
abbrev pub LogsApplied : ℕ → Machine → Option LogView → ℕ → Machine → Option LogView → Type 0
LogsApplied n old None status new new_log = new_log ≡ None
LogsApplied n old (Some log) status new new_log = (now : LogView) × (new_log ≡ Some now)
    × (((status ≡ 0) × EntersDelta n old log new now) ⊎ ((0 < status) × (now ≡ log)))

-- applying bytes as a delta to a session of any width, with its entry if the session has a log; the width is the same afterwards
abbrev pub AppliesAnyLogged : AnySession → List ℕ → ℕ → AnySession → Type 0
AppliesAnyLogged old bytes status new = (width new ≡ width old)
    × Applies (width old) bytes (machine old) status (machine new)
    × LogsApplied (width old) (machine old) (log_of old) status (machine new) (log_of new)

-- an empty handle stays empty, with EMPTY_HANDLE; the session of a full one applies bytes as a delta, with its entry if it has a log
abbrev pub CallsApplyLogged : Option AnySession → List ℕ → ℕ → Option AnySession → Type 0
CallsApplyLogged None bytes status new = (new ≡ None) × (status ≡ 15)
CallsApplyLogged (Some old) bytes status new = (now : AnySession) × (new ≡ Some now)
    × AppliesAnyLogged old bytes status now

-- ---- a log that begins and ends

-- the log that begins with the history of a session
abbrev pub first_log : ℕ → Machine → LogView
first_log n m = record {
  bytes = history_bytes n (kept_part m.state);
  place = history_place n (kept_part m.state);
}

-- a session that has a log keeps it, with HAS_LOG, and one in a batch gets none, with IN_BATCH. Another one gets a log, which makes what the session keeps, or none, with NO_MEMORY
abbrev pub Begins : ℕ → ℕ → Machine → Option LogView → Option LogView → Type 0
Begins status n m (Some log) new = (status ≡ 25) × (new ≡ Some log)
Begins status n m None new = MatchOption (wants_no_batch m.state)
    (((status ≡ 0) × (new ≡ Some (first_log n m)) × IsLogged n [] (logged m (first_log n m)))
    ⊎ ((status ≡ 13) × (new ≡ None)))
    (λ refusal. (status ≡ refusal_status refusal) × (new ≡ None))

-- a session has no log afterwards, with NO_LOG if it had none
abbrev pub Ends : ℕ → ℕ → Machine → Option LogView → Option LogView → Type 0
Ends status n m log new = (new ≡ None) × (status ≡ (if is_some log then 0 else 26))

-- if there is no log, there is none afterwards, with NO_LOG; a log has no bytes that are not taken afterwards, and the same place
abbrev pub ForgetsLog : ℕ → Option LogView → Option LogView → Type 0
ForgetsLog status None new = (status ≡ 26) × (new ≡ None)
ForgetsLog status (Some log) new = (status ≡ 0)
    × (new ≡ Some (record { bytes = []; place = log.place }))

-- the same of the log of a session
abbrev pub Forgets : ℕ → ℕ → Machine → Option LogView → Option LogView → Type 0
Forgets status n m log new = ForgetsLog status log new

-- a session of any width is the same but for its log, which changes so
abbrev pub ChangesLog : AnySession → (ℕ → Machine → Option LogView → Option LogView → Type 0)
    → AnySession → Type 0
ChangesLog old Changes new =
    (width new ≡ width old) × (machine new ≡ machine old)
    × Changes (width old) (machine old) (log_of old) (log_of new)

-- the same of the session of a handle; an empty one stays empty, and Empty holds
abbrev pub CallsOnLog : Option AnySession → (ℕ → Machine → Option LogView → Option LogView → Type 0)
    → Type 0 → Option AnySession → Type 0
CallsOnLog None Changes Empty new = (new ≡ None) × Empty
CallsOnLog (Some old) Changes Empty new = (now : AnySession) × (new ≡ Some now)
    × ChangesLog old Changes now

-- ---- reads of a log

-- the read of a log, but status 26 if there is none
abbrev pub log_read : Option LogView → (LogView → ℕ) → Result ℕ ℕ
log_read log read = ok_or (option_map read log) 26

-- the read of the log of a handle's session, but status 15 if the handle is empty
abbrev pub of_log : Option AnySession → (LogView → ℕ) → Result ℕ ℕ
of_log None read = Err 15
of_log (Some any) read = log_read (log_of any) read

-- a log has the property; if there is none, Fails holds of NO_LOG
abbrev pub FoundLog : Option LogView → (LogView → Type 0) → (ℕ → Type 0) → Type 0
FoundLog None Says Fails = Fails 26
FoundLog (Some log) Says Fails = Says log

-- the same of the log of a handle's session; if the handle is empty, Fails holds of EMPTY_HANDLE
abbrev pub FoundLogIn : Option AnySession → (LogView → Type 0) → (ℕ → Type 0) → Type 0
FoundLogIn None Says Fails = Fails 15
FoundLogIn (Some any) Says Fails = FoundLog (log_of any) Says Fails
