-- What the calls do that edit many bits of a batch at once. A chunk has N bytes.
use Rattle.std.specs.Prelude.{◌≡◌, ℕ, ◌<◌, Bool, List, length, ◌⊎◌, Option, None, Some, nat_eq, MatchBool}
use Rattle.bitmap_session.specs.Edits.{EditCall, EditsTo, set_steps, stopped_steps}
use Rattle.bitmap_session.specs.Laws.{StepsOn}
use Rattle.bitmap_session.specs.Machine.{Machine, State}
use Rattle.bitmap_session.specs.Replies.{Refusal}
use Rattle.bitmap_c.specs.declared.any.AnySession.{AnySession}
use Rattle.bitmap_c.specs.Statuses.{edit_refusal_status}
use Rattle.bitmap_c.specs.Widths.{KeepsLog, machine, width}

-- the status of a call that edits: DONE, or that of its refusal
abbrev pub edit_status : Option Refusal → ℕ
edit_status None = 0
edit_status (Some refusal) = edit_refusal_status refusal

-- a session of any width makes the edits of a call, or is refused for a reason; its width and its log are the same afterwards
abbrev pub EditsAny : AnySession → ((N : ℕ) → State → EditCall) → Option Refusal → AnySession
    → Type 0
EditsAny old call why new = KeepsLog old new
    × EditsTo (width old) (machine old) (call (width old)) why (machine new)

-- an empty handle stays empty, with EMPTY_HANDLE; the session of a full one makes the edits of a call, with DONE, or has the status of the refusal
abbrev pub CallsEdit : Option AnySession → ((N : ℕ) → State → EditCall) → ℕ → Option AnySession
    → Type 0
CallsEdit None call status new = (new ≡ None) × (status ≡ 15)
CallsEdit (Some old) call status new =
    (now : AnySession) × (new ≡ Some now)
    × ((why : Option Refusal) × (status ≡ edit_status why) × EditsAny old call why now)

-- a session makes the edits of a call, or has the status of the refusal, if a buffer has the size of a chunk; otherwise it is unchanged, with WRONG_SIZE
unfoldable pub EditsChunk : (N : ℕ) → ℕ → Machine → (State → EditCall) → ℕ → Machine → Type 0
EditsChunk N size old call status new = MatchBool (nat_eq size N)
    ((why : Option Refusal) × (status ≡ edit_status why) × EditsTo N old call why new)
    ((new ≡ old) × (status ≡ 18))

-- the same of a session of any width, which is the same afterwards, and so is the log
abbrev pub EditsAnyChunk : ℕ → AnySession → ((N : ℕ) → State → EditCall) → ℕ → AnySession → Type 0
EditsAnyChunk size old call status new =
    KeepsLog old new × EditsChunk (width old) size (machine old) (call (width old)) status
    (machine new)

-- an empty handle stays empty, with EMPTY_HANDLE; for the session of a full one the size of the buffer is checked first
abbrev pub CallsEditChunk : ℕ → Option AnySession → ((N : ℕ) → State → EditCall) → ℕ
    → Option AnySession → Type 0
CallsEditChunk size None call status new = (new ≡ None) × (status ≡ 15)
CallsEditChunk size (Some old) call status new =
    (now : AnySession) × (new ≡ Some now) × EditsAnyChunk size old call status now

-- a session sets the bits at the first `count` positions; these are all, or the step of the next one is refused with the status
unfoldable pub SetsMany : ℕ → Machine → List ℕ → Bool → ℕ → ℕ → Machine → Type 0
SetsMany N old positions value count status new =
    ((status ≡ 0) × (count ≡ length positions) × StepsOn N old (set_steps N positions value) new)
    ⊎ ((count < length positions) × ((refusal : Refusal) × (status ≡ edit_refusal_status refusal)
    × StepsOn N old (stopped_steps N positions value count refusal) new))

-- the same of a session of any width, which is the same afterwards, and so is the log
abbrev pub SetsAnyMany : AnySession → List ℕ → Bool → ℕ → ℕ → AnySession → Type 0
SetsAnyMany old positions value count status new =
    KeepsLog old new × SetsMany (width old) (machine old) positions value count status (machine new)

-- an empty handle stays empty, with EMPTY_HANDLE and the old count; the session of a full one sets the bits at positions
abbrev pub CallsSetMany : Option AnySession → List ℕ → Bool → ℕ → ℕ → ℕ → Option AnySession → Type 0
CallsSetMany None positions value old_count count status new = (new ≡ None) × (status ≡ 15)
    × (count ≡ old_count)
CallsSetMany (Some old) positions value old_count count status new =
    (now : AnySession) × (new ≡ Some now) × SetsAnyMany old positions value count status now
