-- A session as a machine, and its replies as values.
use Rattle.std.specs.Prelude.{ℕ, [], Some, None, ⊤}
use Rattle.std.specs.Option.{option_map}
use Rattle.bitmap_core.specs.Decoding.{decode_error}
use Rattle.historical_bitmap.specs.Pending.{PendingEdits}
use Rattle.historical_bitmap.specs.declared.bitmap.historical.error.Error.{Error}
use Rattle.historical_bitmap.specs.declared.bitmap.historical.error.Error.TheVariants as errors
use Rattle.historical_bitmap.specs.View.{View, costs_of, history_of, marked_of, pending_of}
use Rattle.historical_bitmap.specs.declared.bitmap.historical.error.RewindError.{RewindError}
use Rattle.historical_bitmap.specs.declared.bitmap.historical.error.RewindError.TheVariants as rewind_errors
use Rattle.bitmap_session.specs.declared.command.Command.{Command}
use Rattle.bitmap_session.specs.declared.command.Command.TheVariants.{Start, Begin, Commit, Abort, Rewind}
use Rattle.bitmap_session.specs.declared.session.State.{State}
use Rattle.bitmap_session.specs.declared.session.State.TheVariants as state
use Rattle.bitmap_session.specs.declared.reply.Refusal.{Refusal}
use Rattle.bitmap_session.specs.declared.reply.Refusal.TheVariants as refusal
use Rattle.bitmap_session.specs.declared.reply.Reply.{Reply}
use Rattle.bitmap_session.specs.declared.reply.Reply.TheVariants as reply
use Rattle.bitmap_session.specs.Replies.{ReplyValue}
use Rattle.bitmap_session.specs.Replies.ReplyValue.{Done, Bit, Number, Wide, Chunk, Maybe, Positions, Bytes, Snapshot, Read, Refused}
use Rattle.bitmap_session.specs.Replies.Refusal.{WrongMode, OutOfBounds, Pruned, TooLong, NoRetainedBit, ReservedCommitNumber, NonMonotonicCommit, PrunedChunksOverflow, Codec, NoSuchCommit, NoMemory}
use Rattle.bitmap_session.specs.Replies as replies
use Rattle.bitmap_session.specs.Machine.{Machine}

-- the reason of a refusal
abbrev pub reason : Refusal → replies.Refusal
reason refusal.WrongMode = WrongMode
reason refusal.OutOfBounds = OutOfBounds
reason refusal.Pruned = Pruned
reason refusal.TooLong = TooLong
reason refusal.NoRetainedBit = NoRetainedBit
reason refusal.ReservedCommitNumber = ReservedCommitNumber
reason (refusal.NonMonotonicCommit previous attempted) = NonMonotonicCommit previous attempted
reason refusal.PrunedChunksOverflow = PrunedChunksOverflow
reason (refusal.Codec error) = Codec (decode_error error)
reason refusal.NoSuchCommit = NoSuchCommit
reason refusal.NoMemory = NoMemory

-- the reason of a commit's error
abbrev pub reason_of : Error → replies.Refusal
reason_of (errors.NonMonotonicCommit previous attempted) = NonMonotonicCommit previous attempted
reason_of errors.ReservedCommitNumber = ReservedCommitNumber
reason_of errors.PrunedChunksOverflow = PrunedChunksOverflow
reason_of (errors.Memory error) = NoMemory

-- the reason of a rewind's error
abbrev pub reason_of_rewind : RewindError → replies.Refusal
reason_of_rewind rewind_errors.NoSuchCommit = NoSuchCommit
reason_of_rewind (rewind_errors.Memory error) = NoMemory

-- a historical bitmap outside a batch, as a machine
abbrev pub clean : ℕ → View ⊤ → Machine
clean n v = record {
  state = record {
    current = v.current;
    pending = None;
    history = history_of n v;
    costs = costs_of v;
    last = v.last;
  };
  touched = [];
}

-- a historical bitmap in a batch, as a machine that has touched the chunks that the batch has marked
abbrev pub dirty : ℕ → View PendingEdits → Machine
dirty n v = record {
  state = record {
    current = v.current;
    pending = Some (pending_of n v);
    history = history_of n v;
    costs = costs_of v;
    last = v.last;
  };
  touched = marked_of n v;
}

module _ {N : ℕ} where
  -- the state of a session, as a machine
  abbrev pub machine_of : State N → Machine
  machine_of (state.Clean bitmap) = clean N bitmap
  machine_of (state.Dirty bitmap) = dirty N bitmap

  -- the command replaces the state of a session: it starts anew, begins or ends a batch, or rewinds
  abbrev pub ReplacesState : Command N → Type 0
  ReplacesState (Start chunks) = ⊤
  ReplacesState Begin = ⊤
  ReplacesState (Commit number) = ⊤
  ReplacesState Abort = ⊤
  ReplacesState (Rewind number) = ⊤
  ReplacesState _ = ⊥

  -- the value of a reply
  abbrev pub value_of : Reply N → ReplyValue
  value_of reply.Done = Done
  value_of (reply.Bit bit) = Bit bit
  value_of (reply.Number number) = Number number
  value_of (reply.Wide number) = Wide number
  value_of (reply.Chunk bytes) = Chunk bytes
  value_of (reply.Maybe number) = Maybe number
  value_of (reply.Positions positions) = Positions (option_map (λ v. v.items) positions)
  value_of (reply.Bytes bytes) = Bytes (option_map (λ v. v.items) bytes)
  value_of (reply.Snapshot bitmap) = Snapshot bitmap
  value_of (reply.Read bitmap left) = Read bitmap left
  value_of (reply.Refused refusal) = Refused (reason refusal)
