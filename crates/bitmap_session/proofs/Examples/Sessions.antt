-- Sessions as machines, and replies as values.
use Rattle.std.specs.Prelude.{◌≡◌, ℕ, true, [], ◌∷◌, Some, None, alloc_error}
use Rattle.std.specs.Global.{Vec}
use Rattle.std.proofs.Common.{refl}
use Rattle.bitmap_core.specs.PrunedBits.{PrunedBits}
use Rattle.bitmap_core.specs.declared.bitmap.codec.error.CodecError.TheVariants as errors
use Rattle.bitmap_core.specs.Decoding.DecodeError.{EndOfBuffer, InvalidLength}
use Rattle.historical_bitmap.specs.Record.{ReverseRecord}
use Rattle.historical_bitmap.specs.declared.bitmap.historical.error.Error.TheVariants as commit_errors
use Rattle.historical_bitmap.specs.declared.bitmap.historical.error.RewindError.TheVariants as rewind_errors
use Rattle.historical_bitmap.specs.Record.ChunkDiff.{Added}
use Rattle.bitmap_session.specs.declared.session.State.TheVariants as state
use Rattle.bitmap_session.specs.declared.reply.Refusal.TheVariants as refusal
use Rattle.bitmap_session.specs.declared.reply.Reply.TheVariants as reply
use Rattle.bitmap_session.specs.Replies.{ReplyValue}
use Rattle.bitmap_session.specs.Replies.ReplyValue.{Done, Bit, Number, Positions, Bytes, Snapshot, Read, Refused, Wide, Maybe}
use Rattle.bitmap_session.specs.Replies.Refusal.{WrongMode, OutOfBounds, Pruned, TooLong, NoRetainedBit, ReservedCommitNumber, NonMonotonicCommit, PrunedChunksOverflow, Codec, NoMemory, NoSuchCommit}
use Rattle.bitmap_session.specs.Abstraction.{reason, reason_of, reason_of_rewind, machine_of, value_of}

-- one set bit, nothing pruned
abbrev pub one_bit : PrunedBits
one_bit = record { pruned = 0; bits = true ∷ [] }

-- no bits
abbrev pub none : PrunedBits
none = record { pruned = 0; bits = [] }

-- the reverse record of a commit that created chunk 0
abbrev pub made_a_chunk : ReverseRecord
made_a_chunk = record { len = 0; pruned = 0; entries = (0, Added) ∷ [] }

-- a session outside a batch: the current bitmap is kept under 3, at the cost of one entry
clean_session : machine_of {N = 1} (state.Clean (record { current = one_bit; commits = (3, made_a_chunk) ∷ []; last = Some 4; state = tt })) ≡ record {
  state = record { current = one_bit; pending = None; history = (3, one_bit) ∷ []; costs = (3, 1) ∷ []; last = Some 4 };
  touched = [];
}
clean_session = refl

-- a session in a batch that has set a bit in chunk 0
dirty_session : machine_of {N = 1} (state.Dirty (record { current = none; commits = []; last = None; state = record { len = 1; pruned = 0; edited = (0, 1 ∷ []) ∷ []; captured = [] } })) ≡ record {
  state = record { current = none; pending = Some one_bit; history = []; costs = []; last = None };
  touched = 0 ∷ [];
}
dirty_session = refl

-- refusals, one by one
reasons : (reason refusal.WrongMode ≡ WrongMode)
    × (reason refusal.OutOfBounds ≡ OutOfBounds)
    × (reason refusal.Pruned ≡ Pruned)
    × (reason refusal.TooLong ≡ TooLong)
    × (reason refusal.NoRetainedBit ≡ NoRetainedBit)
    × (reason refusal.ReservedCommitNumber ≡ ReservedCommitNumber)
    × (reason refusal.PrunedChunksOverflow ≡ PrunedChunksOverflow)
    × (reason refusal.NoSuchCommit ≡ NoSuchCommit)
    × (reason refusal.NoMemory ≡ NoMemory)
reasons = (refl, refl, refl, refl, refl, refl, refl, refl, refl)

-- the previous number comes first, and then the attempted one
reason_of_a_number : reason (refusal.NonMonotonicCommit 5 3) ≡ NonMonotonicCommit 5 3
reason_of_a_number = refl

-- an error of an input by its decode error; out of memory has none
reason_of_an_input : reason (refusal.Codec errors.EndOfBuffer) ≡ Codec (Some EndOfBuffer)
reason_of_an_input = refl

reason_of_a_length : reason (refusal.Codec (errors.InvalidLength 9)) ≡ Codec (Some (InvalidLength 9))
reason_of_a_length = refl

reason_without_a_error : reason (refusal.Codec errors.OutOfMemory) ≡ Codec None
reason_without_a_error = refl

-- the errors of a commit and of a rewind, one by one
reasons_of_a_commit : (reason_of (commit_errors.NonMonotonicCommit 5 3) ≡ NonMonotonicCommit 5 3)
    × (reason_of commit_errors.ReservedCommitNumber ≡ ReservedCommitNumber)
    × (reason_of commit_errors.PrunedChunksOverflow ≡ PrunedChunksOverflow)
    × (reason_of (commit_errors.Memory alloc_error) ≡ NoMemory)
reasons_of_a_commit = (refl, refl, refl, refl)

reasons_of_rewinding : (reason_of_rewind rewind_errors.NoSuchCommit ≡ NoSuchCommit) × (reason_of_rewind (rewind_errors.Memory alloc_error) ≡ NoMemory)
reasons_of_rewinding = (refl, refl)

-- replies
said_done : value_of {N = 1} reply.Done ≡ Done
said_done = refl

said_bit : value_of {N = 1} (reply.Bit true) ≡ Bit true
said_bit = refl

said_number : value_of {N = 1} (reply.Number 7) ≡ Number 7
said_number = refl

said_wide : value_of {N = 1} (reply.Wide 7) ≡ Wide 7
said_wide = refl

said_chunk : value_of {N = 1} (reply.Chunk (9 ∷ [])) ≡ ReplyValue.Chunk (9 ∷ [])
said_chunk = refl

said_maybe : value_of {N = 1} (reply.Maybe (Some 7)) ≡ Maybe (Some 7)
said_maybe = refl

said_positions : (v : Vec ℕ) → v.items ≡ 2 ∷ 5 ∷ [] → value_of {N = 1} (reply.Positions (Some v)) ≡ Positions (Some (2 ∷ 5 ∷ []))
said_positions v e = rw e refl

said_no_positions : value_of {N = 1} (reply.Positions None) ≡ Positions None
said_no_positions = refl

said_bytes : (v : Vec ℕ) → v.items ≡ 255 ∷ [] → value_of {N = 1} (reply.Bytes (Some v)) ≡ Bytes (Some (255 ∷ []))
said_bytes v e = rw e refl

said_snapshot : value_of {N = 1} (reply.Snapshot (Some one_bit)) ≡ Snapshot (Some one_bit)
said_snapshot = refl

said_read : value_of {N = 1} (reply.Read one_bit 3) ≡ Read one_bit 3
said_read = refl

said_refused : value_of {N = 1} (reply.Refused refusal.Pruned) ≡ Refused Pruned
said_refused = refl
