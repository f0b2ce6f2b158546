-- What a call reports of a reply: its status, and its outputs. An output that the reply does not have is as it was.
use Rattle.std.specs.Prelude.{◌≡◌, ℕ, ◌-◌, ◌^◌, Bool, true, false, List, length, Option, Some, None, min, nat_eq, if◌then◌else◌}
use Rattle.bitmap_session.specs.Replies.{ReplyValue}
use Rattle.bitmap_session.specs.Replies.ReplyValue.{Done, Bit, Number, Wide, Chunk, Maybe, Positions, Bytes, Snapshot, Read, Refused}
use Rattle.bitmap_session.specs.Replies.Refusal.{NonMonotonicCommit}
use Rattle.bitmap_c.specs.Statuses.{edit_refusal_status, refusal_status}

-- DONE if there is a value, and NONE otherwise
abbrev pub found : {A : Type 0} → Option A → ℕ
found (Some value) = 0
found None = 14

-- DONE if there are the bytes of a commit or of two, and NO_SUCH_COMMIT otherwise
abbrev pub found_bytes : Option (List ℕ) → ℕ
found_bytes (Some bytes) = 0
found_bytes None = 12

-- the status of a reply to a call that needs that there is no batch, or reads the pending bitmap in one
abbrev pub reply_status : ReplyValue → ℕ
reply_status Done = 0
reply_status (Bit bit) = 0
reply_status (Number number) = 0
reply_status (Wide number) = 0
reply_status (Chunk bytes) = 0
reply_status (Maybe number) = found number
reply_status (Positions positions) = found positions
reply_status (Bytes bytes) = found_bytes bytes
reply_status (Snapshot bitmap) = found bitmap
reply_status (Read bitmap left) = 0
reply_status (Refused refusal) = refusal_status refusal

-- the status of a reply to a call that needs a batch
abbrev pub edit_reply_status : ReplyValue → ℕ
edit_reply_status (Refused refusal) = edit_refusal_status refusal
edit_reply_status reply = reply_status reply

-- a bit as a byte
abbrev pub bit_byte : Bool → ℕ
bit_byte false = 0
bit_byte true = 1

-- the bit of a reply as a byte, and otherwise the old byte
abbrev pub bit_or : ReplyValue → ℕ → ℕ
bit_or (Bit bit) old = bit_byte bit
bit_or _ old = old

-- the number of a reply, and otherwise the old number
abbrev pub number_or : ReplyValue → ℕ → ℕ
number_or (Number number) old = number
number_or (Maybe (Some number)) old = number
number_or _ old = old

-- the number of entries of a reply, or 2^64 - 1 if it is above that, and otherwise the old number
abbrev pub entries_or : ReplyValue → ℕ → ℕ
entries_or (Wide number) old = min number (2 ^ 64 - 1)
entries_or _ old = old

-- the last number, if the reply refuses a commit number that is not above it, and otherwise the old number
abbrev pub previous_or : ReplyValue → ℕ → ℕ
previous_or (Refused (NonMonotonicCommit previous attempted)) old = previous
previous_or _ old = old

-- the chunk of a reply, and otherwise the old bytes
abbrev pub chunk_or : ReplyValue → List ℕ → List ℕ
chunk_or (Chunk bytes) old = bytes
chunk_or _ old = old

-- the number of bytes of a reply, and otherwise the old size
abbrev pub size_or : ReplyValue → ℕ → ℕ
size_or (Bytes (Some bytes)) old = length bytes
size_or _ old = old

-- the bytes of a reply if a buffer has their size, and otherwise the old bytes of the buffer
abbrev pub bytes_or : ReplyValue → List ℕ → List ℕ
bytes_or (Bytes (Some bytes)) old = if nat_eq (length bytes) (length old) then bytes else old
bytes_or _ old = old

-- the status of a reply with bytes for a buffer of a size: WRONG_SIZE if they have another size
abbrev pub bytes_status : ReplyValue → ℕ → ℕ
bytes_status (Bytes (Some bytes)) size = if nat_eq (length bytes) size then 0 else 18
bytes_status reply size = reply_status reply

-- the status is that of the reply
unfoldable pub Reports : ℕ → ReplyValue → Type 0
Reports status reply = status ≡ reply_status reply

-- the status is that of the reply, to a call that needs a batch
unfoldable pub ReportsEdit : ℕ → ReplyValue → Type 0
ReportsEdit status reply = status ≡ edit_reply_status reply

-- the status and a bit are those of the reply
unfoldable pub ReportsBit : ℕ → ℕ → ℕ → ReplyValue → Type 0
ReportsBit status old new reply = (status ≡ reply_status reply) × (new ≡ bit_or reply old)

-- the status and a bit are those of the reply, to a call that needs a batch
unfoldable pub ReportsPop : ℕ → ℕ → ℕ → ReplyValue → Type 0
ReportsPop status old new reply = (status ≡ edit_reply_status reply) × (new ≡ bit_or reply old)

-- the status and a number are those of the reply
unfoldable pub ReportsNumber : ℕ → ℕ → ℕ → ReplyValue → Type 0
ReportsNumber status old new reply = (status ≡ reply_status reply) × (new ≡ number_or reply old)

-- the status and a number of entries are those of the reply
unfoldable pub ReportsEntries : ℕ → ℕ → ℕ → ReplyValue → Type 0
ReportsEntries status old new reply = (status ≡ reply_status reply) × (new ≡ entries_or reply old)

-- the status and the last number are those of the reply, to a call that needs a batch
unfoldable pub ReportsPrevious : ℕ → ℕ → ℕ → ReplyValue → Type 0
ReportsPrevious status old new reply = (status ≡ edit_reply_status reply)
    × (new ≡ previous_or reply old)

-- the status and the bytes of a chunk are those of the reply
unfoldable pub ReportsChunk : ℕ → List ℕ → List ℕ → ReplyValue → Type 0
ReportsChunk status old new reply = (status ≡ reply_status reply) × (new ≡ chunk_or reply old)

-- the status, a size and the bytes of a buffer are those of the reply
unfoldable pub ReportsBytes : ℕ → ℕ → ℕ → List ℕ → List ℕ → ReplyValue → Type 0
ReportsBytes status old_size new_size old new reply =
    (status ≡ bytes_status reply (length old)) × (new_size ≡ size_or reply old_size)
    × (new ≡ bytes_or reply old)
