-- What a call does to the session of a handle.
use Rattle.std.specs.Prelude.{◌≡◌, ℕ, ◌<◌, List, [], ◌∷◌, length, take, slice_index_or, ◌⊎◌, Option, None, Some, nat_eq, MatchBool}
use Rattle.bitmap_session.specs.declared.command.Command.{Command}
use Rattle.bitmap_session.specs.declared.command.Command.TheVariants.{PushByte}
use Rattle.bitmap_session.specs.Replies.{ReplyValue}
use Rattle.bitmap_session.specs.Machine.{Machine, Agrees, StepTo}
use Rattle.bitmap_c.specs.declared.any.AnySession.{AnySession}
use Rattle.bitmap_c.specs.Reports.{ReportsEdit}
use Rattle.bitmap_c.specs.Widths.{KeepsLog, width, machine}

-- a session makes one step of the machine of its width, and the reply has the property
unfoldable pub Serves : (N : ℕ) → Machine → Command N → (ReplyValue → Type 0) → Machine → Type 0
Serves N old command Says new = (reply : ReplyValue) × StepTo N Agrees old command reply new
    × Says reply

-- a session of any width makes one step, the reply has the property, and the width and the log are the same
unfoldable pub ServesAny : AnySession → ((N : ℕ) → Command N) → (ReplyValue → Type 0) → AnySession
    → Type 0
ServesAny old command Says new =
    KeepsLog old new × Serves (width old) (machine old) (command (width old)) Says (machine new)

-- an empty handle stays empty, and Empty holds; the session of a full one makes one step, and the reply has the property
abbrev pub Calls : Option AnySession → ((N : ℕ) → Command N) → (ReplyValue → Type 0) → Type 0
    → Option AnySession → Type 0
Calls None command Says Empty new = (new ≡ None) × Empty
Calls (Some old) command Says Empty new = (now : AnySession) × (new ≡ Some now)
    × ServesAny old command Says now

-- a session makes one step if a buffer has the size of a chunk; otherwise it is unchanged, and Wrong holds
unfoldable pub ServesChunk : (N : ℕ) → ℕ → Machine → Command N → (ReplyValue → Type 0) → Type 0
    → Machine → Type 0
ServesChunk N size old command Says Wrong new =
    MatchBool (nat_eq size N) (Serves N old command Says new) ((new ≡ old) × Wrong)

-- the same of a session of any width, which is the same afterwards, and so is the log
unfoldable pub ServesAnyChunk : ℕ → AnySession → ((N : ℕ) → Command N) → (ReplyValue → Type 0)
    → Type 0 → AnySession → Type 0
ServesAnyChunk size old command Says Wrong new =
    KeepsLog old new × ServesChunk (width old) size (machine old) (command (width old)) Says Wrong
    (machine new)

-- an empty handle stays empty, and Empty holds; for the session of a full one the size of the buffer is checked first
abbrev pub CallsChunk : ℕ → Option AnySession → ((N : ℕ) → Command N) → (ReplyValue → Type 0)
    → (Empty Wrong : Type 0) → Option AnySession → Type 0
CallsChunk size None command Says Empty Wrong new = (new ≡ None) × Empty
CallsChunk size (Some old) command Says Empty Wrong new =
    (now : AnySession) × (new ≡ Some now) × ServesAnyChunk size old command Says Wrong now

-- each byte is pushed by a step of its own, and each of these steps is accepted
abbrev pub Pushed : ℕ → Machine → List ℕ → Machine → Type 0
Pushed N old [] new = new ≡ old
Pushed N old (byte ∷ bytes) new = (mid : Machine) × Serves N old (PushByte byte) (ReportsEdit 0) mid
    × Pushed N mid bytes new

-- a session pushes the first `count` bytes; these are all, or the step of the next byte has the status, which is not DONE
unfoldable pub PushesBytes : ℕ → Machine → List ℕ → ℕ → ℕ → Machine → Type 0
PushesBytes N old bytes count status new =
    (mid : Machine) × Pushed N old (take count bytes) mid
    × (((status ≡ 0) × (count ≡ length bytes) × (new ≡ mid))
    ⊎ ((0 < status) × (count < length bytes)
    × Serves N mid (PushByte (slice_index_or bytes count 0)) (ReportsEdit status) new))

-- the same of a session of any width, which is the same afterwards, and so is the log
abbrev pub PushesAnyBytes : AnySession → List ℕ → ℕ → ℕ → AnySession → Type 0
PushesAnyBytes old bytes count status new =
    KeepsLog old new × PushesBytes (width old) (machine old) bytes count status (machine new)

-- an empty handle stays empty, with EMPTY_HANDLE and the old count; the session of a full one pushes bytes
abbrev pub CallsPushBytes : Option AnySession → List ℕ → ℕ → ℕ → ℕ → Option AnySession → Type 0
CallsPushBytes None bytes old_count count status new = (new ≡ None) × (status ≡ 15)
    × (count ≡ old_count)
CallsPushBytes (Some old) bytes old_count count status new =
    (now : AnySession) × (new ≡ Some now) × PushesAnyBytes old bytes count status now
