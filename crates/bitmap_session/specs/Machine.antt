-- The abstract machine of a session: its states, its replies, its steps and its runs. It keeps every committed bitmap as a whole list of bits.
use Rattle.std.specs.Prelude.{◌≡◌, ℕ, ◌+◌, ◌-◌, ◌*◌, ◌/◌, ◌^◌, ◌≤◌, Bool, true, false, not, ◌==◌, ◌&&◌, ◌⊎◌, List, [], ◌∷◌, ◌++◌, length, Option, Some, None, nat_lt, nat_le, IsTrue, MatchOption, if◌then◌else◌, unwrap_or, is_some, option_and_then}
use Rattle.std.specs.List.{sum_by}
use Rattle.std.specs.Map.{keys_of}
use Rattle.std.specs.Option.{option_or, option_map}
use Rattle.bitmap_bytes.specs.Chunk.{byte_bits, chunk_bits}
use Rattle.bitmap_core.specs.PrunedBits.{PrunedBits, pruned_bits, bit_len, bit_at, chunk, last_bit}
use Rattle.bitmap_core.specs.Meaning.{ones, pruned_meaning}
use Rattle.bitmap_core.specs.Encoding.{pruned_encoding}
use Rattle.bitmap_core.specs.Decoding.{admits, is_past_64, pruned_error, pruned_in}
use Rattle.historical_bitmap.specs.Cost.{most_cost}
use Rattle.historical_bitmap.specs.Edits.{Edit, IsWithin, after_all, pushes, touched}
use Rattle.historical_bitmap.specs.History.{earliest, from_number, kept_under, latest, up_to_number}
use Rattle.bitmap_session.specs.declared.command.Command.{Command}
use Rattle.bitmap_session.specs.declared.command.Command.TheVariants.{Start, Begin, Push, PushByte, PushChunk, Pop, Set, Prune, Commit, Abort, Rewind, Len, PrunedChunks, Get, Chunk, Ones, Encode, At, OnesAt, EncodeAt, Decode, Commits, Exists, Latest, Earliest, DropBefore, Clear, Entries}
use Rattle.bitmap_session.specs.Replies.{Refusal, ReplyValue}
use Rattle.bitmap_session.specs.Replies.ReplyValue.{Done, Bit, Number, Wide, Maybe, Positions, Bytes, Snapshot, Read, Refused}
use Rattle.bitmap_session.specs.Replies.Refusal.{WrongMode, OutOfBounds, Pruned, TooLong, NoRetainedBit, ReservedCommitNumber, NonMonotonicCommit, PrunedChunksOverflow, Codec, NoSuchCommit, NoMemory}

-- a state: the current bitmap, the pending bitmap if there is a batch, the kept bitmaps by number, the cost of each kept commit in entries, and the last number
pub record State : Type 0 where
  pub current : PrunedBits
  pub pending : Option PrunedBits
  pub history : List (ℕ × PrunedBits)
  pub costs : List (ℕ × ℕ)
  pub last : Option ℕ

-- a machine: a state and the chunks that the batch has touched
pub record Machine : Type 0 where
  pub state : State
  pub touched : List ℕ

-- the state with this many pruned chunks, no retained bits, no batch, no commits and no last number
abbrev pub empty_state : ℕ → State
empty_state chunks = record {
  current = record { pruned = chunks; bits = [] };
  pending = None;
  history = [];
  costs = [];
  last = None;
}

-- the machine before the first command: empty, with nothing pruned and nothing touched
abbrev pub first_machine : Machine
first_machine = record { state = empty_state 0; touched = [] }

-- the machine with this current bitmap, without a batch, commits and a last number, and with nothing touched
abbrev pub machine_with : PrunedBits → Machine
machine_with bitmap = record {
  state = record {
    current = bitmap;
    pending = None;
    history = [];
    costs = [];
    last = None;
  };
  touched = [];
}

-- there is a batch
abbrev pub is_dirty : State → Bool
is_dirty s = is_some s.pending

-- the visible bitmap: the pending bitmap in a batch, and otherwise the current bitmap
abbrev pub shown : State → PrunedBits
shown s = unwrap_or s.pending s.current

-- the state with this pending bitmap
abbrev pub edited : State → PrunedBits → State
edited s bitmap = record s { pending = Some bitmap }

-- the state after a commit: the visible bitmap is current and kept under the number at this cost, and the number is the last one
abbrev pub committed : State → ℕ → ℕ → State
committed s number cost = record {
  current = shown s;
  pending = None;
  history = s.history ++ (number, shown s) ∷ [];
  costs = s.costs ++ (number, cost) ∷ [];
  last = Some number;
}

-- the state after a rewind: the bitmap kept under the number is current, later commits are dropped, and the number is the last one
abbrev pub rewound : State → ℕ → State
rewound s number = record {
  current = unwrap_or (kept_under s.history number) s.current;
  pending = None;
  history = up_to_number number s.history;
  costs = up_to_number number s.costs;
  last = Some number;
}

-- the state without the commits below the number
abbrev pub dropped_before : State → ℕ → State
dropped_before s number =
    record s { history = from_number number s.history; costs = from_number number s.costs }

-- the refusal if the test is true, and otherwise none
abbrev pub when : Bool → Refusal → Option Refusal
when test refusal = if test then Some refusal else None

-- the first refusal of a list of optional ones
abbrev pub first : List (Option Refusal) → Option Refusal
first [] = None
first (refusal ∷ refusals) = option_or refusal (first refusals)

-- the rule of a command: what the machine does with it
pub record Rule : Type 0 where
  -- the refusals that may hold, in order: the first one that holds is the reply
  pub refusals : List (Option Refusal)
  -- the command allocates, so it may be refused with NoMemory
  pub allocates : Bool
  -- the reply if the command is accepted
  pub reply : ReplyValue
  -- the state afterwards if the command is accepted, given the cost of a commit
  pub after : ℕ → State
  -- the chunks that the command touches
  pub touches : List ℕ

-- WrongMode if there is no batch: for a command that needs a batch
abbrev pub wants_batch : State → Option Refusal
wants_batch s = when (not (is_dirty s)) WrongMode

-- WrongMode if there is a batch: for a command outside batches
abbrev pub wants_no_batch : State → Option Refusal
wants_no_batch s = when (is_dirty s) WrongMode

-- NoRetainedBit if the visible bitmap retains no bit: for a command that drops one
abbrev pub wants_retained : State → Option Refusal
wants_retained s = when (length (shown s).bits == 0) NoRetainedBit

-- the refusals of a commit number: it is the greatest number of u64, which is reserved, or it is not above the last number
abbrev pub wants_number : State → ℕ → List (Option Refusal)
wants_number s number =
    when (number == 2 ^ 64 - 1) ReservedCommitNumber
    ∷ option_and_then (λ previous. when (nat_le number previous)
    (NonMonotonicCommit previous number)) s.last
    ∷ []

-- a commit is kept under the number
abbrev pub is_kept : State → ℕ → Bool
is_kept s number = is_some (kept_under s.history number)

-- NoSuchCommit if no commit is kept under the number: for a rewind
abbrev pub wants_kept : State → ℕ → Option Refusal
wants_kept s number = when (not (is_kept s number)) NoSuchCommit

-- the refusal of a session of the bitmap kept under the number, if one holds
abbrev pub checkout_refusal : State → ℕ → Option Refusal
checkout_refusal s number = first (wants_no_batch s ∷ wants_kept s number ∷ [])

-- the rule of a command that reads: it leaves the state unchanged
abbrev pub reads : State → List (Option Refusal) → Bool → ReplyValue → Rule
reads s refusals allocates reply =
    record {
      refusals = refusals;
      allocates = allocates;
      reply = reply;
      after = λ cost. s;
      touches = [];
    }

-- the rule of a command that reads the bitmap at a commit, or finds none: it allocates only if the commit is kept
abbrev pub reads_kept : State → ℕ → (Option PrunedBits → ReplyValue) → Rule
reads_kept s number reply =
    reads s (wants_no_batch s ∷ []) (is_kept s number) (reply (kept_under s.history number))

-- the rule of a command that touches no chunk: it starts, begins or ends a batch, rewinds, or drops commits
abbrev pub sets_state : List (Option Refusal) → Bool → ReplyValue → (ℕ → State) → Rule
sets_state refusals allocates reply after =
    record {
      refusals = refusals;
      allocates = allocates;
      reply = reply;
      after = after;
      touches = [];
    }

-- The definitions from here on are for chunks of N bytes.
module _ (N : ℕ) where
  -- the index of the chunk that contains a position
  abbrev pub chunk_index : ℕ → ℕ
  chunk_index position = position / (8 * N)

  -- the length of the visible bitmap in bits
  abbrev pub shown_len : State → ℕ
  shown_len s = bit_len N (shown s)

  -- the refusals of a position: it is not below the length of the visible bitmap, or it is pruned
  abbrev pub wants_bit : State → ℕ → List (Option Refusal)
  wants_bit s position =
      when (nat_le (shown_len s) position) OutOfBounds
      ∷ when (nat_lt position (pruned_bits N (shown s))) Pruned
      ∷ []

  -- OutOfBounds if the position is above the length: for a prune up to it
  abbrev pub wants_end : State → ℕ → Option Refusal
  wants_end s position = when (nat_lt (shown_len s) position) OutOfBounds

  -- TooLong if the length plus this many bits does not fit u64: for a command that appends them
  abbrev pub wants_space : State → ℕ → Option Refusal
  wants_space s more = when (is_past_64 (shown_len s + more)) TooLong

  -- PrunedChunksOverflow if the bits of this many chunks do not fit u64: for a start with them pruned
  abbrev pub wants_fitting : ℕ → Option Refusal
  wants_fitting chunks = when (is_past_64 (8 * N * chunks)) PrunedChunksOverflow

  -- the refusal of an input with a decode error
  abbrev pub wants_readable : (ℕ → Bool) → List ℕ → Option Refusal
  wants_readable range input =
      option_map (λ decode_error. Codec (Some decode_error)) (pruned_error N range input)

  -- the reply to an input without a decode error: the bitmap, and the number of bytes after its encoding
  abbrev pub decoded : List ℕ → ReplyValue
  decoded input = Read (pruned_in input)
      (length input - length (pruned_encoding N (pruned_in input)))

  -- a possible reply to a decode of the input: its decode error if it has one, and otherwise its bitmap or NoMemory
  abbrev pub IsDecoded : (ℕ → Bool) → List ℕ → ReplyValue → Type 0
  IsDecoded range input reply = MatchOption (pruned_error N range input)
      ((reply ≡ decoded input) ⊎ (reply ≡ Refused NoMemory))
      (λ decode_error. reply ≡ Refused (Codec (Some decode_error)))

  -- the set positions of a bitmap from one position up to another, ascending
  abbrev pub ones_of : ℕ → ℕ → PrunedBits → List ℕ
  ones_of from to bitmap = ones N (pruned_meaning N bitmap) from to

  -- the rule of a command that makes these edits of the pending bitmap, and touches the chunks that they touch
  abbrev pub edits : State → List (Option Refusal) → Bool → ReplyValue → List Edit → Rule
  edits s refusals allocates reply these = record {
    refusals = wants_batch s ∷ refusals;
    allocates = allocates;
    reply = reply;
    after = λ cost. edited s (after_all N (shown s) these);
    touches = touched N (shown s) these;
  }

  -- the rule of a command that appends these bits, which are this many
  abbrev pub appends : State → ℕ → List Bool → Rule
  appends s more bits = edits s (wants_space s more ∷ []) true Done (pushes bits)

  -- the rule of each command
  abbrev pub rule : State → Command N → Rule
  rule s (Start chunks) = sets_state (wants_no_batch s ∷ wants_fitting chunks ∷ []) false Done
      (λ cost. empty_state chunks)
  rule s Begin = sets_state (wants_no_batch s ∷ []) false Done (λ cost. edited s s.current)
  rule s (Push value) = appends s 1 (value ∷ [])
  rule s (PushByte byte) = appends s 8 (byte_bits byte)
  rule s (PushChunk bytes) = appends s (8 * N) (chunk_bits N bytes)
  rule s Pop = edits s (wants_retained s ∷ []) false (Bit (last_bit (shown s))) (Edit.Pop ∷ [])
  rule s (Set position value) =
      edits s (wants_bit s position) true Done (Edit.Set position value ∷ [])
  rule s (Prune position) =
      edits s (wants_end s position ∷ []) (nat_lt (shown s).pruned (chunk_index position)) Done
      (Edit.Prune position ∷ [])
  rule s (Commit number) =
      sets_state (wants_batch s ∷ wants_number s number) true Done (λ cost. committed s number cost)
  rule s Abort = sets_state (wants_batch s ∷ []) false Done (λ cost. record s { pending = None })
  rule s (Rewind number) =
      sets_state (wants_no_batch s ∷ wants_kept s number ∷ []) (is_kept s number) Done
      (λ cost. rewound s number)
  rule s Len = reads s [] false (Number (shown_len s))
  rule s PrunedChunks = reads s [] false (Number (shown s).pruned)
  rule s (Get position) = reads s (wants_bit s position) false (Bit (bit_at N (shown s) position))
  rule s (Chunk position) =
      reads s (wants_bit s position) false
      (ReplyValue.Chunk (chunk N (shown s) (chunk_index position)))
  rule s (Ones from to) = reads s (wants_no_batch s ∷ []) true
      (Positions (Some (ones_of from to s.current)))
  rule s Encode = reads s (wants_no_batch s ∷ []) true (Bytes (Some (pruned_encoding N s.current)))
  rule s (At number) = reads_kept s number Snapshot
  rule s (OnesAt number from to) =
      reads_kept s number (λ kept. Positions (option_map (ones_of from to) kept))
  rule s (EncodeAt number) =
      reads_kept s number (λ kept. Bytes (option_map (pruned_encoding N) kept))
  rule s (Decode input range) =
      reads s (wants_readable (admits range) input.items ∷ []) true (decoded input.items)
  rule s Commits = reads s (wants_no_batch s ∷ []) true (Positions (Some (keys_of s.history)))
  rule s (Exists number) = reads s (wants_no_batch s ∷ []) false (Bit (is_kept s number))
  rule s Latest = reads s (wants_no_batch s ∷ []) false (Maybe (latest s.history))
  rule s Earliest = reads s (wants_no_batch s ∷ []) false (Maybe (earliest s.history))
  rule s (DropBefore number) =
      let kept = from_number number s.history in
      sets_state (wants_no_batch s ∷ []) false (Number (length s.history - length kept))
      (λ cost. dropped_before s number)
  rule s Clear = sets_state (wants_no_batch s ∷ []) false Done
      (λ cost. record s { history = []; costs = [] })
  rule s Entries = reads s (wants_no_batch s ∷ []) false (Wide (sum_by (λ kept. kept.1) s.costs))

  -- the refusal of a command, if one holds
  abbrev pub refusal_of : State → Command N → Option Refusal
  refusal_of s command = first (rule s command).refusals

  -- the command allocates, so it may be refused with NoMemory
  abbrev pub allocates : State → Command N → Bool
  allocates s command = (rule s command).allocates

  -- the reply of an accepted command
  abbrev pub reply_of : State → Command N → ReplyValue
  reply_of s command = (rule s command).reply

  -- the state after an accepted command, given the cost of a commit
  abbrev pub state_after : State → Command N → ℕ → State
  state_after s command = (rule s command).after

  -- the chunks that an accepted command touches
  abbrev pub touches : State → Command N → List ℕ
  touches s command = (rule s command).touches

  -- the touched chunks after an accepted command: they add up within a batch, and there are none at its begin and after its end
  abbrev pub touched_after : Machine → Command N → List ℕ
  touched_after m command =
      if is_dirty m.state && is_dirty (state_after m.state command 0)
      then m.touched ++ touches m.state command else []

  -- the machine after an accepted command, given the cost of a commit
  abbrev pub after : Machine → Command N → ℕ → Machine
  after m command cost = record {
    state = state_after m.state command cost;
    touched = touched_after m command;
  }

  -- Steps up to Is, a relation that says when two machines count as the same.
  module _ (Is : Machine → Machine → Type 0) where
    -- the command is accepted: the reply and the machine are those of its rule, and a commit has any cost up to the most
    abbrev pub Accepts : Machine → Command N → ReplyValue → Machine → Type 0
    Accepts old command reply new =
        (reply ≡ reply_of old.state command)
        × ((cost : ℕ) × (cost ≤ most_cost N old.touched old.state.current (shown old.state))
        × Is new (after old command cost))

    -- the command is refused with this refusal, and the machine is unchanged
    abbrev pub Refuses : Machine → Refusal → ReplyValue → Machine → Type 0
    Refuses old refusal reply new = (reply ≡ Refused refusal) × Is new old

    -- one step: if a refusal holds the command is refused with it; otherwise it is accepted, or, if it allocates, may be refused with NoMemory
    abbrev pub StepTo : Machine → Command N → ReplyValue → Machine → Type 0
    StepTo old command reply new = MatchOption (refusal_of old.state command)
        (Accepts old command reply new
        ⊎ (IsTrue (allocates old.state command) × Refuses old NoMemory reply new))
        (λ refusal. Refuses old refusal reply new)

  -- one step: from the machine old, the command may have this reply and lead to the machine new
  abbrev pub Step : Machine → Command N → ReplyValue → Machine → Type 0
  Step old command reply new = StepTo (λ a b. a ≡ b) old command reply new

  -- a run: from the machine old, the commands may have these replies, one each, and lead to the machine new
  abbrev pub Run : Machine → List (Command N) → List ReplyValue → Machine → Type 0
  Run old [] [] new = new ≡ old
  Run old (command ∷ commands) (reply ∷ replies) new = (mid : Machine) × Step old command reply mid
      × Run mid commands replies new
  Run old [] (reply ∷ replies) new = ⊥
  Run old (command ∷ commands) [] new = ⊥

-- a session agrees with a machine: the states are the same, and the machine has touched each chunk that the session has marked
pub record Agrees (session machine : Machine) : Type 0 where
  pub same : session.state ≡ machine.state
  pub within : IsWithin session.touched machine.touched

-- from every machine that agrees with old there is a run of the commands, with these replies, to a machine that agrees with new
abbrev pub RunsOn : (N : ℕ) → Machine → List (Command N) → List ReplyValue → Machine → Type 0
RunsOn N old commands replies new =
    (before : Machine) → Agrees old before
    → (after : Machine) × Agrees new after × Run N before commands replies after
