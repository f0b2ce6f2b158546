-- A command that is run with its entry is a step of the machine, and the entry makes of what is kept what the step does.
use Rattle.std.proofs.Common.{◌≡◌, ℕ, List, [], ◌∷◌, ◌++◌, Bool, true, false, Option, Some, None, Result, Ok, Err, refl, sym, ap, subst, ◌∙◌, append_assoc, append-nil, inl, inr}
use Rattle.std.specs.Prelude.{⊤, IfErr, IfOk, IsTrue, OnErr, OnOk, MatchOption, take, ◌⊎◌, alloc_error, if◌then◌else◌, is_some, unwrap_or}
use Rattle.std.proofs.lemmas.Bool.{false≢true}
use Rattle.historical_bitmap.specs.History.{kept_under, up_to_number}
use Rattle.historical_bitmap.specs.Pending.{PendingEdits}
use Rattle.historical_bitmap.specs.View.{AddsCost, View, commit_error, costs_of, history_of, pending_of}
use Rattle.historical_bitmap.specs.declared.bitmap.historical.error.Error.TheVariants as commit_errors
use Rattle.historical_bitmap.specs.declared.bitmap.historical.error.RewindError.TheVariants as rewind_errors
use Rattle.log_frames.specs.Frames.{frame, next}
use Rattle.log_frames.specs.declared.frame.Place.{Place}
use Rattle.commit_log.specs.Base.{Base}
use Rattle.commit_log.specs.Entries.{Entry, encode_entry}
use Rattle.commit_log.specs.History.{history_base, history_bytes, history_entries, history_place}
use Rattle.commit_log.specs.Kept.{Kept, after, after_all, entry_of_commit, entry_to, kept_of}
use Rattle.commit_log.specs.Logs.{GoesOn, IsLog, LogView, MayFollow, appended, log_bytes, place_of, state_of}
use Rattle.commit_log.proofs.Appended.{IsLog-push, log_bytes-push, place_of-push, state_of-push}
use Rattle.bitmap_session.specs.declared.command.Command.{Command}
use Rattle.bitmap_session.specs.declared.command.Command.TheVariants.{Start, Begin, Push, PushByte, PushChunk, Pop, Set, Prune, Commit, Abort, Rewind, Len, PrunedChunks, Get, Chunk, Ones, Encode, At, OnesAt, EncodeAt, Decode, Commits, Exists, Latest, Earliest, DropBefore, Clear, Entries}
use Rattle.bitmap_session.specs.declared.reply.Refusal.{Refusal as SetRefusal}
use Rattle.bitmap_session.specs.declared.reply.Reply.{Reply}
use Rattle.bitmap_session.specs.declared.session.saved.ApplyDeltaError.{ApplyDeltaError}
use Rattle.bitmap_session.specs.declared.session.saved.ApplyDeltaError.TheVariants.{InBatch}
use Rattle.bitmap_session.specs.Replies.{ReplyValue, Refusal}
use Rattle.bitmap_session.specs.Replies.ReplyValue.{Done, Refused}
use Rattle.bitmap_session.specs.Replies.Refusal.{NoMemory}
use Rattle.bitmap_session.specs.Abstraction.{clean, dirty, reason, reason_of, reason_of_rewind, value_of}
use Rattle.bitmap_session.specs.Logged.{IsLogged, LoggedView, LogsDelta, Serves, accepted_entries, appended_all, entries_of, is_refused}
use Rattle.bitmap_session.specs.Edits.{EditCall, EditsTo, Makes, set_steps, stopped_steps}
use Rattle.bitmap_session.specs.Laws.{StepsOn}
use Rattle.bitmap_session.specs.Machine.{Machine, State, Accepts, Agrees, Refuses, StepTo, allocates, first, is_dirty, refusal_of, state_after, wants_batch}
use Rattle.bitmap_session.specs.Saved.{kept_part}
use Rattle.bitmap_session.proofs.Saved.{none_applied}
use Rattle.bitmap_session.proofs.Steps.{not_committed, not_rewound, rewound_as, was_committed}

-- ---- commands without an entry

-- a command without an entry that is no start keeps what is kept
abbrev KeepsAll : (n : ℕ) → State → Command n → Type 0
KeepsAll n s command = (accepted_entries n s command ≡ []) × ((cost : ℕ) → kept_part (state_after n s command cost) ≡ kept_part s)

pub keeps_all : (n : ℕ) (s : State) (command : Command n)
    → ((chunks : ℕ) → command ≡ Start chunks → ⊥)
    → ((number : ℕ) → command ≡ Commit number → ⊥)
    → ((number : ℕ) → command ≡ Rewind number → ⊥)
    → ((number : ℕ) → command ≡ DropBefore number → ⊥)
    → (command ≡ Clear → ⊥)
    → KeepsAll n s command
keeps_all n s (Start chunks) start _ _ _ _ = absurd (start chunks refl)
keeps_all n s Begin _ _ _ _ _ = (refl, λ cost. refl)
keeps_all n s (Push value) _ _ _ _ _ = (refl, λ cost. refl)
keeps_all n s (PushByte byte) _ _ _ _ _ = (refl, λ cost. refl)
keeps_all n s (PushChunk bytes) _ _ _ _ _ = (refl, λ cost. refl)
keeps_all n s Pop _ _ _ _ _ = (refl, λ cost. refl)
keeps_all n s (Set position value) _ _ _ _ _ = (refl, λ cost. refl)
keeps_all n s (Prune position) _ _ _ _ _ = (refl, λ cost. refl)
keeps_all n s (Commit number) _ commit _ _ _ = absurd (commit number refl)
keeps_all n s Abort _ _ _ _ _ = (refl, λ cost. refl)
keeps_all n s (Rewind number) _ _ rewind _ _ = absurd (rewind number refl)
keeps_all n s Len _ _ _ _ _ = (refl, λ cost. refl)
keeps_all n s PrunedChunks _ _ _ _ _ = (refl, λ cost. refl)
keeps_all n s (Get position) _ _ _ _ _ = (refl, λ cost. refl)
keeps_all n s (Chunk position) _ _ _ _ _ = (refl, λ cost. refl)
keeps_all n s (Ones from to) _ _ _ _ _ = (refl, λ cost. refl)
keeps_all n s Encode _ _ _ _ _ = (refl, λ cost. refl)
keeps_all n s (At number) _ _ _ _ _ = (refl, λ cost. refl)
keeps_all n s (OnesAt number from to) _ _ _ _ _ = (refl, λ cost. refl)
keeps_all n s (EncodeAt number) _ _ _ _ _ = (refl, λ cost. refl)
keeps_all n s (Decode input range) _ _ _ _ _ = (refl, λ cost. refl)
keeps_all n s Commits _ _ _ _ _ = (refl, λ cost. refl)
keeps_all n s (Exists number) _ _ _ _ _ = (refl, λ cost. refl)
keeps_all n s Latest _ _ _ _ _ = (refl, λ cost. refl)
keeps_all n s Earliest _ _ _ _ _ = (refl, λ cost. refl)
keeps_all n s (DropBefore number) _ _ _ drop _ = absurd (drop number refl)
keeps_all n s Clear _ _ _ _ clear = absurd (clear refl)
keeps_all n s Entries _ _ _ _ _ = (refl, λ cost. refl)

-- a step, given the refusal that holds
abbrev StepBy : (n : ℕ) → Machine → Command n → ReplyValue → Machine → Option Refusal → Type 0
StepBy n old command reply new refusal = MatchOption refusal
    (Accepts n Agrees old command reply new ⊎ (IsTrue (allocates n old.state command) × Refuses n Agrees old NoMemory reply new))
    (λ r. Refuses n Agrees old r reply new)

kept_by : (n : ℕ) (old : Machine) (command : Command n) (reply : ReplyValue) (new : Machine) (r : Option Refusal)
    → ((cost : ℕ) → kept_part (state_after n old.state command cost) ≡ kept_part old.state)
    → StepBy n old command reply new r
    → kept_part new.state ≡ kept_part old.state
kept_by n old command reply new (Some refusal) keeps h = ap (λ (s : State). kept_part s) h.1.same
kept_by n old command reply new None keeps (inl h) = ap (λ (s : State). kept_part s) h.1.2.same ∙ keeps h.1.0
kept_by n old command reply new None keeps (inr h) = ap (λ (s : State). kept_part s) h.1.1.same

none_either_way : (b : Bool) (es : List Entry) → es ≡ [] → (if b then [] else es) ≡ []
none_either_way true es e = refl
none_either_way false es e = e

-- a session with its log, of which these entries are appended
abbrev Logged : (n : ℕ) → LoggedView → LoggedView → List Entry → Type 0
Logged n old new es =
    (new.log ≡ appended_all old.log es) × GoesOn n (kept_part old.machine.state) es × (kept_part new.machine.state ≡ after_all n (kept_part old.machine.state) es)

none_logged : (n : ℕ) (old new : LoggedView) (es : List Entry)
    → es ≡ []
    → new.log ≡ old.log
    → kept_part new.machine.state ≡ kept_part old.machine.state
    → Logged n old new es
none_logged n old new es e log kept = subst (λ (x : List Entry). Logged n old new x) (sym e) (log, tt, kept)

-- an exact step with these entries
pub serves_exactly : (n : ℕ) (old new : LoggedView) (command : Command n) (reply : ReplyValue)
    → StepTo n Agrees old.machine command reply new.machine
    → Logged n old new (entries_of n old.machine.state command reply)
    → Serves n old command reply new
serves_exactly n old new command reply step logged = record {
  step = step;
  log = logged.0;
  follows = logged.1;
  kept = logged.2;
}

-- a command without an entry that is no start leaves the log
pub serves_unlogged : (n : ℕ) (old new : Machine) (log : LogView) (command : Command n) (reply : ReplyValue)
    → KeepsAll n old.state command
    → StepTo n Agrees old command reply new
    → Serves n (record { machine = old; log = log }) command reply (record { machine = new; log = log })
serves_unlogged n old new log command reply keeps step =
    let before : LoggedView = record { machine = old; log = log } in
    let now : LoggedView = record { machine = new; log = log } in
    serves_exactly n before now command reply step
    (none_logged n before now (entries_of n old.state command reply)
    (none_either_way (is_refused reply) (accepted_entries n old.state command) keeps.0)
    refl
    (kept_by n old command reply new (refusal_of n old.state command) keeps.1 step))

-- a refused command leaves the session and the log
pub serves_refused : (n : ℕ) (m : Machine) (log : LogView) (command : Command n) (why : Refusal)
    → StepTo n Agrees m command (Refused why) m
    → Serves n (record { machine = m; log = log }) command (Refused why) (record { machine = m; log = log })
serves_refused n m log command why step =
    serves_exactly n (record { machine = m; log = log }) (record { machine = m; log = log }) command (Refused why) step (refl, tt, refl)

-- ---- commits

pub commit_served : (n number : ℕ) (v : View PendingEdits) (new : View ⊤) (log after_log : LogView)
    → after_log ≡ appended log (entry_of_commit n v number)
    → MayFollow n (kept_of n v) (entry_of_commit n v number)
    → kept_of n new ≡ after n (kept_of n v) (entry_of_commit n v number)
    → new.current ≡ pending_of n v
    → history_of n new ≡ history_of n v ++ (number, pending_of n v) ∷ []
    → AddsCost n v number new
    → Serves n (record { machine = dirty n v; log = log }) (Commit number) Done (record { machine = clean n new; log = after_log })
commit_served n number v new log after_log written follows entry current history costs =
    let last = ap (λ (k : Kept). k.last) entry in
    serves_exactly n (record { machine = dirty n v; log = log }) (record { machine = clean n new; log = after_log }) (Commit number) Done
    (was_committed n number v new follows.accepted.0 current history last costs)
    (written, (follows, tt), entry)

pub commit_not_served : (n number : ℕ) (v : View PendingEdits) (log : LogView)
    → Serves n (record { machine = dirty n v; log = log }) (Commit number)
    (Refused (reason_of (unwrap_or (commit_error v.last number) (commit_errors.Memory alloc_error))))
    (record { machine = dirty n v; log = log })
commit_not_served n number v log =
    serves_refused n (dirty n v) log (Commit number) _ (not_committed n number v (commit_error v.last number) refl)

-- ---- rewinds

pub rewind_served : (n number : ℕ) (v new : View ⊤) (log after_log : LogView)
    → after_log ≡ appended log (Entry.Rewind number)
    → MayFollow n (kept_of n v) (Entry.Rewind number)
    → kept_of n new ≡ after n (kept_of n v) (Entry.Rewind number)
    → costs_of new ≡ up_to_number number (costs_of v)
    → Serves n (record { machine = clean n v; log = log }) (Rewind number) Done (record { machine = clean n new; log = after_log })
rewind_served n number v new log after_log written follows entry costs =
    serves_exactly n (record { machine = clean n v; log = log }) (record { machine = clean n new; log = after_log }) (Rewind number) Done
    (rewound_as n number v new follows.accepted (ap (λ (k : Kept). k.current) entry) (ap (λ (k : Kept). k.history) entry) costs (ap (λ (k : Kept). k.last) entry))
    (written, (follows, tt), entry)

pub rewind_not_served : (n number : ℕ) (v : View ⊤) (log : LogView)
    → Serves n (record { machine = clean n v; log = log }) (Rewind number)
    (Refused (reason_of_rewind (if is_some (kept_under (history_of n v) number) then rewind_errors.Memory alloc_error else rewind_errors.NoSuchCommit)))
    (record { machine = clean n v; log = log })
rewind_not_served n number v log =
    serves_refused n (clean n v) log (Rewind number) _ (not_rewound n number v (kept_under (history_of n v) number) refl)

-- ---- drops

-- outside a batch an entry was appended, and in one none
abbrev PushedIn : (n : ℕ) → Bool → Machine → LogView → Entry → LogView → Type 0
PushedIn n in_batch m log e new =
    (new ≡ appended_all log (if in_batch then [] else e ∷ [])) × GoesOn n (kept_part m.state) (if in_batch then [] else e ∷ [])

drop_by : (n number : ℕ) (m new : Machine) (log after_log : LogView) (reply : ReplyValue) (in_batch : Bool)
    → is_dirty m.state ≡ in_batch
    → PushedIn n in_batch m log (Entry.DropBefore number) after_log
    → StepTo n Agrees m (DropBefore number) reply new
    → Logged n (record { machine = m; log = log }) (record { machine = new; log = after_log }) (entries_of n m.state (DropBefore number) reply)
drop_by n number m new log after_log reply true e pushed step =
    let h = rw e at step in
    rw h.0 (pushed.0, tt, ap (λ (s : State). kept_part s) h.1.same)
drop_by n number m new log after_log reply false e pushed step = elim (rw e at step) [
  | inl h ↦ rw h.0 (pushed.0, pushed.1, ap (λ (s : State). kept_part s) h.1.2.same)
  | inr h ↦ absurd (false≢true h.0)
]

pub drop_served : (n number : ℕ) (m new : Machine) (log after_log : LogView) (reply : ReplyValue)
    → PushedIn n (is_dirty m.state) m log (Entry.DropBefore number) after_log
    → StepTo n Agrees m (DropBefore number) reply new
    → Serves n (record { machine = m; log = log }) (DropBefore number) reply (record { machine = new; log = after_log })
drop_served n number m new log after_log reply pushed step =
    serves_exactly n (record { machine = m; log = log }) (record { machine = new; log = after_log }) (DropBefore number) reply step
    (drop_by n number m new log after_log reply (is_dirty m.state) refl pushed step)

clear_by : (n : ℕ) (m new : Machine) (log after_log : LogView) (reply : ReplyValue) (in_batch : Bool)
    → is_dirty m.state ≡ in_batch
    → PushedIn n in_batch m log Entry.Clear after_log
    → StepTo n Agrees m Clear reply new
    → Logged n (record { machine = m; log = log }) (record { machine = new; log = after_log }) (entries_of n m.state Clear reply)
clear_by n m new log after_log reply true e pushed step =
    let h = rw e at step in
    rw h.0 (pushed.0, tt, ap (λ (s : State). kept_part s) h.1.same)
clear_by n m new log after_log reply false e pushed step = elim (rw e at step) [
  | inl h ↦ rw h.0 (pushed.0, pushed.1, ap (λ (s : State). kept_part s) h.1.2.same)
  | inr h ↦ absurd (false≢true h.0)
]

pub clear_served : (n : ℕ) (m new : Machine) (log after_log : LogView) (reply : ReplyValue)
    → PushedIn n (is_dirty m.state) m log Entry.Clear after_log
    → StepTo n Agrees m Clear reply new
    → Serves n (record { machine = m; log = log }) Clear reply (record { machine = new; log = after_log })
clear_served n m new log after_log reply pushed step =
    serves_exactly n (record { machine = m; log = log }) (record { machine = new; log = after_log }) Clear reply step
    (clear_by n m new log after_log reply (is_dirty m.state) refl pushed step)

-- ---- the log of a session

-- the bytes that were taken from a log and those that were not are a log that makes this state
record LogsKept (n : ℕ) (taken : List ℕ) (log : LogView) (s : Kept) : Type 0 where
  base : Base
  entries : List Entry
  is_log : IsLog n base entries
  bytes : taken ++ log.bytes ≡ log_bytes n base entries
  place : log.place ≡ place_of n base entries
  kept : s ≡ state_of n base entries

logs_one : (n : ℕ) (taken : List ℕ) (log : LogView) (s : Kept) (e : Entry)
    → LogsKept n taken log s
    → MayFollow n s e
    → LogsKept n taken (appended log e) (after n s e)
logs_one n taken log s e h follows =
    let body = encode_entry e in
    record {
      base = h.base;
      entries = h.entries ++ e ∷ [];
      is_log = IsLog-push n h.base h.entries e h.is_log (subst (λ (k : Kept). MayFollow n k e) h.kept follows);
      bytes = sym (append_assoc taken log.bytes (frame log.place body))
          ∙ ap (λ (x : List ℕ). x ++ frame log.place body) h.bytes
          ∙ ap (λ (p : Place). log_bytes n h.base h.entries ++ frame p body) h.place
          ∙ sym (log_bytes-push n h.base h.entries e);
      place = ap (λ (p : Place). next p body) h.place ∙ sym (place_of-push n h.base h.entries e);
      kept = ap (λ (k : Kept). after n k e) h.kept ∙ sym (state_of-push n h.base h.entries e);
    }

logs_all : (n : ℕ) (taken : List ℕ) (es : List Entry) (log : LogView) (s : Kept)
    → LogsKept n taken log s
    → GoesOn n s es
    → LogsKept n taken (appended_all log es) (after_all n s es)
logs_all n taken [] log s h follows = h
logs_all n taken (e ∷ es) log s h follows =
    logs_all n taken es (appended log e) (after n s e) (logs_one n taken log s e h follows.0) follows.1

logs_kept : (n : ℕ) (taken : List ℕ) (v : LoggedView) → IsLogged n taken v → LogsKept n taken v.log (kept_part v.machine.state)
logs_kept n taken v h =
    record { base = h.base; entries = h.entries; is_log = h.log; bytes = h.bytes; place = h.place; kept = h.kept }

is_logged : (n : ℕ) (taken : List ℕ) (v : LoggedView) (log : LogView) (s : Kept)
    → LogsKept n taken log s
    → v.log ≡ log
    → kept_part v.machine.state ≡ s
    → IsLogged n taken v
is_logged n taken v log s h same keeps = record {
  base = h.base;
  entries = h.entries;
  log = h.is_log;
  bytes = ap (λ (l : LogView). taken ++ l.bytes) same ∙ h.bytes;
  place = ap (λ (l : LogView). l.place) same ∙ h.place;
  kept = keeps ∙ h.kept;
}

-- what is logged before a command is logged after it
pub serves_logged : (n : ℕ) (taken : List ℕ) (old new : LoggedView) (command : Command n) (reply : ReplyValue)
    → Serves n old command reply new
    → IsLogged n taken old
    → IsLogged n taken new
serves_logged n taken old new command reply served h =
    let es = entries_of n old.machine.state command reply in
    let before = logs_kept n taken old h in
    is_logged n taken new _ _ (logs_all n taken es old.log (kept_part old.machine.state) before served.follows) served.log served.kept

-- what is logged stays logged if the bytes are taken
pub taken_logged : (n : ℕ) (taken : List ℕ) (v : LoggedView)
    → IsLogged n taken v
    → IsLogged n (taken ++ v.log.bytes) (record { machine = v.machine; log = record { bytes = []; place = v.log.place } })
taken_logged n taken v h = record {
  base = h.base;
  entries = h.entries;
  log = h.log;
  bytes = append-nil (taken ++ v.log.bytes) ∙ h.bytes;
  place = h.place;
  kept = h.kept;
}

-- a log that begins with a history makes what the history is of
pub begun_logged : (n : ℕ) (m : Machine) (log : LogView)
    → IsLog n (history_base (kept_part m.state)) (history_entries n (kept_part m.state))
    → state_of n (history_base (kept_part m.state)) (history_entries n (kept_part m.state)) ≡ kept_part m.state
    → log ≡ record { bytes = history_bytes n (kept_part m.state); place = history_place n (kept_part m.state) }
    → IsLogged n [] (record { machine = m; log = log })
begun_logged n m log is_log made is = record {
  base = history_base (kept_part m.state);
  entries = history_entries n (kept_part m.state);
  log = is_log;
  bytes = ap (λ (l : LogView). l.bytes) is;
  place = ap (λ (l : LogView). l.place) is;
  kept = sym made;
}

-- a fact of a value that follows from another one
pub ok_weaker : {T E : Type 0} (r : Result T E) (P Q : T → Type 0) → ((x : T) → P x → Q x) → IfOk r P → IfOk r Q
ok_weaker (Ok x) P Q f h = f x h
ok_weaker (Err e) P Q f h = tt

-- a drop and a clear may follow every state
pub drop_follows : (n number : ℕ) (s t : Kept) → MayFollow n s (Entry.DropBefore number) → MayFollow n t (Entry.DropBefore number)
drop_follows n number s t f = record { fits = f.fits; small = f.small; accepted = tt }

pub clear_follows : (n : ℕ) (s t : Kept) → MayFollow n s Entry.Clear → MayFollow n t Entry.Clear
clear_follows n s t f = record { fits = f.fits; small = f.small; accepted = tt }

pub drop_served_as : (n number : ℕ) (m new : Machine) (log after_log : LogView) (reply : ReplyValue) (command : Command n)
    → command ≡ DropBefore number
    → PushedIn n (is_dirty m.state) m log (Entry.DropBefore number) after_log
    → StepTo n Agrees m command reply new
    → Serves n (record { machine = m; log = log }) command reply (record { machine = new; log = after_log })
drop_served_as n number m new log after_log reply command e pushed step =
    subst (λ (k : Command n). Serves n (record { machine = m; log = log }) k reply (record { machine = new; log = after_log })) (sym e)
    (drop_served n number m new log after_log reply pushed (subst (λ (k : Command n). StepTo n Agrees m k reply new) e step))

pub clear_served_as : (n : ℕ) (m new : Machine) (log after_log : LogView) (reply : ReplyValue) (command : Command n)
    → command ≡ Clear
    → PushedIn n (is_dirty m.state) m log Entry.Clear after_log
    → StepTo n Agrees m command reply new
    → Serves n (record { machine = m; log = log }) command reply (record { machine = new; log = after_log })
clear_served_as n m new log after_log reply command e pushed step =
    subst (λ (k : Command n). Serves n (record { machine = m; log = log }) k reply (record { machine = new; log = after_log })) (sym e)
    (clear_served n m new log after_log reply pushed (subst (λ (k : Command n). StepTo n Agrees m k reply new) e step))

-- what is logged before a call that serves a command, or fails and changes nothing, is logged after it
pub result_logged : {E : Type 0} (n : ℕ) (taken : List ℕ) (old new : LoggedView) (command : Command n) (r : Result (Reply n) E)
    → IfOk r (λ reply. Serves n old command (value_of reply) new)
    → OnErr r (new.machine ≡ old.machine)
    → OnErr r (new.log ≡ old.log)
    → IsLogged n taken old
    → IsLogged n taken new
result_logged n taken old new command (Ok reply) served machine log h = serves_logged n taken old new command (value_of reply) served h
result_logged n taken old new command (Err e) served machine log h =
    is_logged n taken new old.log (kept_part old.machine.state) (logs_kept n taken old h) log (ap (λ (m : Machine). kept_part m.state) machine)

-- ---- deltas

-- in a batch no delta is applied, and the log is left
pub none_logged_delta : {T : Type 0} (n : ℕ) (bytes : List ℕ) (v : View PendingEdits) (log : LogView) (m : Machine) → dirty n v ≡ m
    → LogsDelta {T = T} n bytes (record { machine = m; log = log }) (Err InBatch) (record { machine = dirty n v; log = log })
none_logged_delta {T = T} n bytes v log m e =
    record { applied = none_applied {T = T} n bytes v m e; log = tt; follows = tt; kept = tt; unlogged = refl }

-- what is logged before a delta is applied is logged after it
pub delta_logged : {T : Type 0} (n : ℕ) (taken bytes : List ℕ) (old new : LoggedView) (r : Result T ApplyDeltaError)
    → LogsDelta n bytes old r new
    → IsLogged n taken old
    → IsLogged n taken new
delta_logged n taken bytes old new (Ok x) d h =
    let s = kept_part old.machine.state in
    let e = entry_to n s (kept_part new.machine.state) in
    is_logged n taken new (appended old.log e) (after n s e) (logs_one n taken old.log s e (logs_kept n taken old h) d.follows) d.log d.kept
delta_logged n taken bytes old new (Err e) d h =
    is_logged n taken new old.log (kept_part old.machine.state) (logs_kept n taken old h) d.unlogged (ap (λ (m : Machine). kept_part m.state) d.applied.unchanged)

-- ---- edits

edited_by : (n : ℕ) (old new : Machine) (call : State → EditCall) (why refused : Option Refusal)
    → MatchOption refused
    (((why ≡ None) × Makes n old (call old.state).edits new) ⊎ (IsTrue (call old.state).allocates × (why ≡ Some NoMemory) × (new ≡ old)))
    (λ refusal. (why ≡ Some refusal) × (new ≡ old))
    → kept_part new.state ≡ kept_part old.state
edited_by n old new call why (Some refusal) h = ap (λ (m : Machine). kept_part m.state) h.1
edited_by n old new call why None (inl h) = ap (λ (s : State). kept_part s) h.1.agrees.same
edited_by n old new call why None (inr h) = ap (λ (m : Machine). kept_part m.state) h.2

-- what is logged before an edit is logged after it
pub edits_logged : (n : ℕ) (taken : List ℕ) (old new : LoggedView) (call : State → EditCall) (why : Option Refusal)
    → EditsTo n old.machine call why new.machine
    → new.log ≡ old.log
    → IsLogged n taken old
    → IsLogged n taken new
edits_logged n taken old new call why edits log h =
    let s = old.machine.state in
    is_logged n taken new old.log (kept_part s) (logs_kept n taken old h) log (edited_by n old.machine new.machine call why (first (wants_batch s ∷ (call s).refusals)) edits)

set_kept : (n position : ℕ) (value : Bool) (reply : ReplyValue) (old new : Machine)
    → StepTo n Agrees old (Set position value) reply new
    → kept_part new.state ≡ kept_part old.state
set_kept n position value reply old new step =
    kept_by n old (Set position value) reply new (refusal_of n old.state (Set position value)) (λ cost. refl) step

sets_kept : (n : ℕ) (positions : List ℕ) (value : Bool) (old new : Machine)
    → StepsOn n old (set_steps n positions value) new
    → kept_part new.state ≡ kept_part old.state
sets_kept n [] value old new h = ap (λ (m : Machine). kept_part m.state) h
sets_kept n (p ∷ ps) value old new h = sets_kept n ps value h.0 new h.2 ∙ set_kept n p value Done old h.0 h.1

stopped_kept : (n : ℕ) (positions : List ℕ) (value : Bool) (last : ℕ) (reply : ReplyValue) (old new : Machine)
    → StepsOn n old (set_steps n positions value ++ (Set last value, reply) ∷ []) new
    → kept_part new.state ≡ kept_part old.state
stopped_kept n [] value last reply old new h =
    ap (λ (m : Machine). kept_part m.state) h.2 ∙ set_kept n last value reply old h.0 h.1
stopped_kept n (p ∷ ps) value last reply old new h = stopped_kept n ps value last reply h.0 new h.2 ∙ set_kept n p value Done old h.0 h.1

many_kept : (n : ℕ) (positions : List ℕ) (value : Bool) (old new : Machine) (r : Result (Unit {0}) (ℕ × SetRefusal))
    → OnOk r (StepsOn n old (set_steps n positions value) new)
    → IfErr r (λ e. StepsOn n old (stopped_steps n positions value e.0 (reason e.1)) new)
    → kept_part new.state ≡ kept_part old.state
many_kept n positions value old new (Ok x) all stopped = sets_kept n positions value old new all
many_kept n positions value old new (Err e) all stopped = stopped_kept n (take e.0 positions) value _ _ old new stopped

-- what is logged before many bits are set is logged after it
pub sets_logged : (n : ℕ) (taken positions : List ℕ) (value : Bool) (old new : LoggedView) (r : Result (Unit {0}) (ℕ × SetRefusal))
    → OnOk r (StepsOn n old.machine (set_steps n positions value) new.machine)
    → IfErr r (λ e. StepsOn n old.machine (stopped_steps n positions value e.0 (reason e.1)) new.machine)
    → new.log ≡ old.log
    → IsLogged n taken old
    → IsLogged n taken new
sets_logged n taken positions value old new r all stopped log h =
    is_logged n taken new old.log (kept_part old.machine.state) (logs_kept n taken old h) log (many_kept n positions value old.machine new.machine r all stopped)
