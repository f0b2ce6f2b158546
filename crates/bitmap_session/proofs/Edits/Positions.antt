-- Positions that are set one after another, up to the first that is refused.
use Rattle.std.proofs.Common.{◌≡◌, ℕ, ◌+◌, ◌<◌, ◌≤◌, Bool, List, [], ◌∷◌, ◌++◌, length, map, take, get_or, Option, Some, None, refl, ap, subst, sym, ◌∙◌, inl, inr}
use Rattle.std.specs.Prelude.{◌⊎◌, IsTrue, MatchOption}
use Rattle.std.proofs.lemmas.List.{map-append, take_all, take_more}
use Rattle.bitmap_session.specs.declared.command.Command.{Command}
use Rattle.bitmap_session.specs.declared.command.Command.TheVariants.{Set}
use Rattle.bitmap_session.specs.declared.reply.Refusal.{Refusal}
use Rattle.bitmap_session.specs.declared.reply.Reply.{Reply}
use Rattle.bitmap_session.specs.declared.reply.Reply.TheVariants as reply
use Rattle.bitmap_session.specs.Abstraction.{value_of}
use Rattle.bitmap_session.specs.Edits.{set_steps}
use Rattle.bitmap_session.specs.Laws.{StepsOn}
use Rattle.bitmap_session.specs.Machine.{Accepts, Agrees, Machine, Refuses, StepTo, allocates, refusal_of}
use Rattle.bitmap_session.specs.Replies as replies
use Rattle.bitmap_session.specs.Replies.{ReplyValue}
use Rattle.bitmap_session.specs.Replies.ReplyValue.{Done, Refused}
use Rattle.bitmap_session.specs.Replies.Refusal.{NoMemory}
use Rattle.bitmap_session.proofs.Simulates.{step_from}

-- steps with one more at the end
pub one_more : (N : ℕ) (old mid new : Machine) (steps : List (Command N × ReplyValue)) (command : Command N) (value : ReplyValue)
    → StepsOn N old steps mid
    → StepTo N Agrees mid command value new
    → StepsOn N old (steps ++ (command, value) ∷ []) new
one_more N old mid new [] command value had step = (new, step_from N mid old command value new had step, refl)
one_more N old mid new (s ∷ steps) command value had step = (had.0, had.1, one_more N had.0 mid new steps command value had.2 step)

-- the steps of the first i + 1 positions are those of the first i, and one more
pub next_set : (N : ℕ) (old mid new : Machine) (positions : List ℕ) (value : Bool) (i d : ℕ)
    → i < length positions
    → StepsOn N old (set_steps N (take i positions) value) mid
    → StepTo N Agrees mid (Set (get_or positions i d) value) Done new
    → StepsOn N old (set_steps N (take (i + 1) positions) value) new
next_set N old mid new positions value i d h had step =
    let each : ℕ → Command N × ReplyValue = λ position. (Set position value, Done) in
    let joined = ap (λ ps. map each ps) (take_more positions i d h) ∙ map-append each (take i positions) (get_or positions i d ∷ []) in
    subst (λ steps. StepsOn N old steps new) (sym joined) (one_more N old mid new (set_steps N (take i positions) value) (Set (get_or positions i d) value) Done had step)

-- the first positions are all of them
pub all_set : (N : ℕ) (old new : Machine) (positions : List ℕ) (value : Bool) (i : ℕ)
    → length positions ≤ i
    → StepsOn N old (set_steps N (take i positions) value) new
    → StepsOn N old (set_steps N positions value) new
all_set N old new positions value i h had = let e = take_all i positions h in rw e at had

-- a reply that is no refusal has no refusal as its value
no_refusal : {N : ℕ} (r : Reply N) (why : replies.Refusal) → ((refusal : Refusal) → r ≡ reply.Refused refusal → ⊥) → value_of r ≡ Refused why → ⊥
no_refusal reply.Done why h e = cc
no_refusal (reply.Bit bit) why h e = cc
no_refusal (reply.Number number) why h e = cc
no_refusal (reply.Wide number) why h e = cc
no_refusal (reply.Chunk bytes) why h e = cc
no_refusal (reply.Maybe number) why h e = cc
no_refusal (reply.Positions positions) why h e = cc
no_refusal (reply.Bytes bytes) why h e = cc
no_refusal (reply.Snapshot bitmap) why h e = cc
no_refusal (reply.Read bitmap left) why h e = cc
no_refusal (reply.Refused refusal) why h e = h refusal refl

done_by : (N : ℕ) (old new : Machine) (position : ℕ) (value : Bool) (r : Reply N) (refusal : Option replies.Refusal)
    → ((why : Refusal) → r ≡ reply.Refused why → ⊥)
    → MatchOption refusal
    (Accepts N Agrees old (Set position value) (value_of r) new ⊎ (IsTrue (allocates N old.state (Set position value)) × Refuses N Agrees old NoMemory (value_of r) new))
    (λ why. Refuses N Agrees old why (value_of r) new)
    → value_of r ≡ Done
done_by N old new position value r (Some why) h step = absurd (no_refusal r why h step.0)
done_by N old new position value r None h (inl step) = step.0
done_by N old new position value r None h (inr step) = absurd (no_refusal r NoMemory h step.1.0)

-- a set that is not refused is done
pub set_done : (N : ℕ) (old new : Machine) (position : ℕ) (value : Bool) (r : Reply N)
    → ((why : Refusal) → r ≡ reply.Refused why → ⊥)
    → StepTo N Agrees old (Set position value) (value_of r) new
    → StepTo N Agrees old (Set position value) Done new
set_done N old new position value r h step =
    let done = done_by N old new position value r (refusal_of N old.state (Set position value)) h step in
    subst (λ reply. StepTo N Agrees old (Set position value) reply new) done step
