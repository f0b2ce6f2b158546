-- Calls of a session that make many edits of a batch at once. A chunk has N bytes.
use Rattle.std.specs.Prelude.{◌≡◌, ℕ, ◌-◌, ◌*◌, Bool, true, false, ◌&&◌, ◌⊎◌, List, [], ◌∷◌, ◌++◌, length, map, take, Option, Some, None, Result, nat_lt, nat_le, IsTrue, MatchOption, slice_index_or}
use Rattle.std.specs.Option.{option_map}
use Rattle.std.specs.Result.{result_err}
use Rattle.bitmap_core.specs.PrunedBits.{PrunedBits, last_bit, pruned_bits}
use Rattle.historical_bitmap.specs.Edits.{AllAccepted, Edit, after, after_all, chunk_end, pops, pushes, sets, sets_of, touched}
use Rattle.historical_bitmap.specs.Lengths.{pushes_to}
use Rattle.bitmap_session.specs.declared.command.Command.{Command}
use Rattle.bitmap_session.specs.declared.command.Command.TheVariants.{Push, Pop, Set, Prune}
use Rattle.bitmap_session.specs.declared.reply.Refusal.{Refusal}
use Rattle.bitmap_session.specs.Replies.{ReplyValue}
use Rattle.bitmap_session.specs.Replies.ReplyValue.{Bit, Done, Refused}
use Rattle.bitmap_session.specs.Replies.Refusal.{NoMemory, OutOfBounds, Pruned}
use Rattle.bitmap_session.specs.Replies as replies
use Rattle.bitmap_session.specs.Abstraction.{reason}
use Rattle.bitmap_session.specs.Machine.{Agrees, Machine, RunsOn, State, edited, first, shown, shown_len, wants_batch, wants_space, when}

-- why a call is refused, or none if it is accepted
abbrev pub reason_in : {T : Type 0} → Result T Refusal → Option replies.Refusal
reason_in result = option_map reason (result_err result)

-- a call that edits a batch: the refusals of its arguments, in order, whether it allocates, and its edits, in order
pub record EditCall : Type 0 where
  pub refusals : List (Option replies.Refusal)
  pub allocates : Bool
  pub edits : List Edit

-- the edits are made: each is accepted after those before it, and touches its chunks
pub record Makes (N : ℕ) (old : Machine) (these : List Edit) (new : Machine) : Type 0 where
  pub accepted : AllAccepted N (shown old.state) these
  pub agrees : Agrees new (record {
    state = edited old.state (after_all N (shown old.state) these);
    touched = old.touched ++ touched N (shown old.state) these;
  })

-- a call has the first refusal that holds and changes nothing; otherwise it makes its edits, or runs out of memory and changes nothing
abbrev pub EditsTo : ℕ → Machine → (State → EditCall) → Option replies.Refusal → Machine → Type 0
EditsTo N old call why new = MatchOption (first (wants_batch old.state ∷ (call old.state).refusals))
    (((why ≡ None) × Makes N old (call old.state).edits new)
    ⊎ (IsTrue (call old.state).allocates × (why ≡ Some NoMemory) × (new ≡ old)))
    (λ refusal. (why ≡ Some refusal) × (new ≡ old))

-- The calls that edit, each in a state.
module _ (N : ℕ) where
  -- the refusals of a chunk by its index: it has no bit below the length of the visible bitmap, or it is pruned
  abbrev pub wants_chunk : State → ℕ → List (Option replies.Refusal)
  wants_chunk s index =
      when (nat_le (shown_len N s) (8 * N * index)) OutOfBounds
      ∷ when (nat_lt index (shown s).pruned) Pruned
      ∷ []

  -- the call that replaces the bits of a chunk by those of some bytes, up to the length
  abbrev pub sets_chunk : ℕ → List ℕ → State → EditCall
  sets_chunk index bytes s = record {
    refusals = wants_chunk s index;
    allocates = true;
    edits = sets_of N bytes (8 * N * index) (chunk_end N (shown s) index);
  }

  -- the refusals of a range of positions: it is not empty, and ends above the length of the visible bitmap, or starts at a pruned bit
  abbrev pub wants_range : State → ℕ → ℕ → List (Option replies.Refusal)
  wants_range s start end =
      when (nat_lt start end && nat_lt (shown_len N s) end) OutOfBounds
      ∷ when (nat_lt start end && nat_lt start (pruned_bits N (shown s))) Pruned
      ∷ []

  -- the call that sets each position of a range to a value; an empty range changes nothing
  abbrev pub sets_range : ℕ → ℕ → Bool → State → EditCall
  sets_range start end value s = record {
    refusals = wants_range s start end;
    allocates = nat_lt start end;
    edits = sets start end value;
  }

  -- the refusals of a length to shorten to: it is above the length of the visible bitmap, or below its pruned bits
  abbrev pub wants_length : State → ℕ → List (Option replies.Refusal)
  wants_length s len =
      when (nat_lt (shown_len N s) len) OutOfBounds
      ∷ when (nat_lt len (pruned_bits N (shown s))) Pruned
      ∷ []

  -- the call that drops the bits from a length on
  abbrev pub shortens : ℕ → State → EditCall
  shortens len s = record {
    refusals = wants_length s len;
    allocates = false;
    edits = pops (shown_len N s - len);
  }

  -- the call that appends zeros up to a length
  abbrev pub lengthens : ℕ → State → EditCall
  lengthens len s = record {
    refusals = [];
    allocates = nat_lt (shown_len N s) len;
    edits = pushes_to N (shown s) len;
  }

  -- the call that appends some bits
  abbrev pub appends_bits : List Bool → State → EditCall
  appends_bits bits s = record {
    refusals = wants_space N s (length bits) ∷ [];
    allocates = nat_lt 0 (length bits);
    edits = pushes bits;
  }

  -- the accepted steps that set some positions to a value, in order
  abbrev pub set_steps : List ℕ → Bool → List (Command N × ReplyValue)
  set_steps positions value = map (λ position. (Set position value, Done)) positions

  -- the same of the first `count` positions, and the step of the next one, which is refused
  abbrev pub stopped_steps : List ℕ → Bool → ℕ → replies.Refusal → List (Command N × ReplyValue)
  stopped_steps positions value count refusal =
      set_steps (take count positions) value
      ++ (Set (slice_index_or positions count 0) value, Refused refusal) ∷ []

  -- the command that makes one edit
  abbrev pub command_of : Edit → Command N
  command_of (Edit.Push value) = Push value
  command_of Edit.Pop = Pop
  command_of (Edit.Set position value) = Set position value
  command_of (Edit.Prune position) = Prune position

-- the reply to the command of an accepted edit of a bitmap
abbrev pub reply_to : PrunedBits → Edit → ReplyValue
reply_to b (Edit.Push value) = Done
reply_to b Edit.Pop = Bit (last_bit b)
reply_to b (Edit.Set position value) = Done
reply_to b (Edit.Prune position) = Done

-- the replies to the commands of some edits, each made after those before it
abbrev pub replies_to : ℕ → PrunedBits → List Edit → List ReplyValue
replies_to N b [] = []
replies_to N b (edit ∷ edits) = reply_to b edit ∷ replies_to N (after N b edit) edits

-- the law of many edits: a call that makes them is a run of one command for each, and a refused call is a run of no command
abbrev pub EditsAreRun : ℕ → Type 0
EditsAreRun N = (old new : Machine) (call : State → EditCall) (why : Option replies.Refusal)
    → EditsTo N old call why new
    → MatchOption why
    (RunsOn N old (map (command_of N) (call old.state).edits)
    (replies_to N (shown old.state) (call old.state).edits) new)
    (λ refusal. RunsOn N old [] [] new)
