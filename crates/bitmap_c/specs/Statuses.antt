-- The statuses that the functions return, as numbers.
use Rattle.std.specs.Prelude.{ℕ, Option, Some, None}
use Rattle.bitmap_core.specs.Decoding.{DecodeError}
use Rattle.bitmap_core.specs.Decoding.DecodeError.{EndOfBuffer, InvalidLength, Invalid}
use Rattle.bitmap_core.specs.declared.bitmap.codec.error.CodecError.TheVariants as codec_errors
use Rattle.log_frames.specs.declared.header.HeaderError.{HeaderError}
use Rattle.log_frames.specs.declared.header.HeaderError.TheVariants as header_errors
use Rattle.commit_log.specs.declared.base.BaseError.{BaseError}
use Rattle.commit_log.specs.declared.base.BaseError.TheVariants as base_errors
use Rattle.commit_log.specs.declared.deltas.DeltaError.{DeltaError}
use Rattle.commit_log.specs.declared.deltas.DeltaError.TheVariants as delta_errors
use Rattle.commit_log.specs.declared.reading.HistoryError.{HistoryError}
use Rattle.commit_log.specs.declared.reading.HistoryError.TheVariants as history_errors
use Rattle.commit_log.specs.declared.recovery.Damage.{Damage}
use Rattle.commit_log.specs.declared.recovery.Damage.TheVariants as damages
use Rattle.commit_log.specs.declared.recovery.RecoverError.{RecoverError}
use Rattle.commit_log.specs.declared.recovery.RecoverError.TheVariants as recover_errors
use Rattle.bitmap_session.specs.declared.session.saved.ApplyDeltaError.{ApplyDeltaError}
use Rattle.bitmap_session.specs.declared.session.saved.ApplyDeltaError.TheVariants as apply_errors
use Rattle.bitmap_session.specs.Replies.{Refusal}
use Rattle.bitmap_session.specs.Replies.Refusal.{WrongMode, OutOfBounds, Pruned, TooLong, NoRetainedBit, ReservedCommitNumber, NonMonotonicCommit, PrunedChunksOverflow, Codec, NoSuchCommit, NoMemory}

-- the status of a decode error
abbrev pub decode_status : Option DecodeError → ℕ
decode_status (Some EndOfBuffer) = 9
decode_status (Some (InvalidLength length)) = 10
decode_status (Some (Invalid what why)) = 11
decode_status None = 11

-- the status of a refusal of a call that needs that there is no batch
abbrev pub refusal_status : Refusal → ℕ
refusal_status WrongMode = 1
refusal_status OutOfBounds = 2
refusal_status Pruned = 3
refusal_status TooLong = 4
refusal_status NoRetainedBit = 5
refusal_status ReservedCommitNumber = 6
refusal_status (NonMonotonicCommit previous attempted) = 7
refusal_status PrunedChunksOverflow = 8
refusal_status (Codec decode_error) = decode_status decode_error
refusal_status NoSuchCommit = 12
refusal_status NoMemory = 13

-- the status of a refusal of a call that needs a batch: NOT_IN_BATCH in place of IN_BATCH
abbrev pub edit_refusal_status : Refusal → ℕ
edit_refusal_status WrongMode = 27
edit_refusal_status refusal = refusal_status refusal

-- the status of an error of a header: CUT_OFF if it is not whole, and otherwise WRONG_HEADER
abbrev pub header_status : HeaderError → ℕ
header_status header_errors.Short = 20
header_status _ = 19

-- the status of an error of a base: OUT_OF_RANGE if it retains a number of bits that is not admitted, and otherwise NOT_ACCEPTED, or NO_MEMORY
abbrev pub base_status : BaseError → ℕ
base_status (base_errors.State (codec_errors.InvalidLength length)) = 23
base_status (base_errors.Memory e) = 13
base_status _ = 22

-- the status of an error of a history
abbrev pub history_status : HistoryError → ℕ
history_status (history_errors.Header e) = header_status e
history_status history_errors.Short = 20
history_status history_errors.BadHead = 21
history_status history_errors.BadDigest = 21
history_status (history_errors.Base e) = base_status e
history_status (history_errors.Count count) = 23
history_status (history_errors.Entry e) = 22
history_status (history_errors.Bits len) = 23
history_status (history_errors.Memory e) = 13

-- the status of the damage of a log: DAMAGED if a frame is not whole, and NOT_ACCEPTED if it is, and its body is no base or no entry that can follow
abbrev pub damage_status : Damage → ℕ
damage_status damages.Head = 21
damage_status damages.Digest = 21
damage_status (damages.Base e) = 22
damage_status (damages.Entry e) = 22

-- the status of an error of a log
abbrev pub recover_status : RecoverError → ℕ
recover_status (recover_errors.Header e) = header_status e
recover_status recover_errors.NoBase = 20
recover_status (recover_errors.Damaged at damage) = damage_status damage
recover_status (recover_errors.Memory e) = 13

-- the status of an error of a delta
abbrev pub delta_status : DeltaError → ℕ
delta_status delta_errors.Short = 20
delta_status delta_errors.NotADelta = 19
delta_status (delta_errors.Version version) = 19
delta_status delta_errors.BadDigest = 21
delta_status (delta_errors.Width width) = 19
delta_status delta_errors.NotAtBase = 24
delta_status (delta_errors.Change e) = 22
delta_status (delta_errors.Memory e) = 13

-- the status of an error of a session that does not apply a delta
abbrev pub apply_status : ApplyDeltaError → ℕ
apply_status apply_errors.InBatch = 1
apply_status (apply_errors.Delta e) = delta_status e
