-- Reads in place. A read is a value, or the status that says why there is none. A chunk has N bytes.
use Rattle.std.specs.Prelude.{◌≡◌, ℕ, ◌*◌, ◌/◌, ◌==◌, ◌||◌, List, Option, Some, None, Result, Ok, Err, nat_le, nat_lt, if◌then◌else◌}
use Rattle.std.specs.Option.{ok_or}
use Rattle.std.specs.Result.{result_unwrap_or}
use Rattle.bitmap_bytes.specs.Chunk.{bit_value, chunk_from}
use Rattle.bitmap_core.specs.Meaning.{Meaning, pruned_meaning}
use Rattle.bitmap_core.specs.PrunedBits.{PrunedBits}
use Rattle.bitmap_core.specs.Searches.{next_one, next_zero, ones_count, prev_one, prev_zero, select_one}
use Rattle.historical_bitmap.specs.History.{kept_under}
use Rattle.bitmap_session.specs.Machine.{Machine, is_dirty, shown}
use Rattle.bitmap_c.specs.declared.any.AnySession.{AnySession}
use Rattle.bitmap_c.specs.declared.queries.Query.{Query}
use Rattle.bitmap_c.specs.declared.queries.Query.TheVariants.{Len, PrunedChunks, NextOne, NextZero, PrevOne, PrevZero, CountOnes, SelectOne}
use Rattle.bitmap_c.specs.Packed.{byte_count, packed}
use Rattle.bitmap_c.specs.Widths.{machine, width}

-- the status of a read: 0 if there is a value
abbrev pub status_of : {A : Type 0} → Result A ℕ → ℕ
status_of (Ok value) = 0
status_of (Err status) = status

-- a call returns a read: its status is the read's, and its output becomes the value, or is unchanged if there is none
pub record Returns {A : Type 0} (status : ℕ) (old new : A) (read : Result A ℕ) : Type 0 where
  pub status_is : status ≡ status_of read
  pub output_is : new ≡ result_unwrap_or read old

-- what a search finds, or status 14 if it finds nothing
abbrev pub found : {A : Type 0} → Option A → Result A ℕ
found option = ok_or option 14

-- the read, but status 1 in a batch
abbrev pub outside_batch : {A : Type 0} → Machine → Result A ℕ → Result A ℕ
outside_batch m read = if is_dirty m.state then Err 1 else read

-- the read of an optional bitmap, but status 12 if there is none
abbrev pub of_kept : {A : Type 0} → ℕ → Option PrunedBits → (ℕ → Meaning → Result A ℕ) → Result A ℕ
of_kept N None read = Err 12
of_kept N (Some bitmap) read = read N (pruned_meaning N bitmap)

-- the read of the bitmap that a machine shows: in a batch the pending one, and otherwise the current one
abbrev pub session_shown : {A : Type 0} → ℕ → Machine → (ℕ → Meaning → Result A ℕ) → Result A ℕ
session_shown N m read = read N (pruned_meaning N (shown m.state))

-- the read of the bitmap that a machine keeps under a number
abbrev pub session_commit : {A : Type 0} → ℕ → Machine → ℕ → (ℕ → Meaning → Result A ℕ) → Result A ℕ
session_commit N m number read =
    outside_batch m (of_kept N (kept_under m.state.history number) read)

-- the read of the session of a handle, but status 15 if the handle is empty
abbrev pub of_handle : {A : Type 0} → Option AnySession → (ℕ → Machine → Result A ℕ) → Result A ℕ
of_handle None read = Err 15
of_handle (Some any) read = read (width any) (machine any)

-- the read of the bitmap that a handle shows
abbrev pub read_shown : {A : Type 0} → Option AnySession → (ℕ → Meaning → Result A ℕ) → Result A ℕ
read_shown handle read = of_handle handle (λ N m. session_shown N m read)

-- the read of the bitmap that a handle keeps under a number
abbrev pub read_commit : {A : Type 0} → Option AnySession → ℕ → (ℕ → Meaning → Result A ℕ)
    → Result A ℕ
read_commit handle number read = of_handle handle (λ N m. session_commit N m number read)

-- the read, but status 2 if the position is not below the length, and else status 3 if it is pruned
abbrev pub at_position : {A : Type 0} → ℕ → Meaning → ℕ → Result A ℕ → Result A ℕ
at_position N b position read =
    if nat_le b.len position then Err 2
    else (if nat_lt position (8 * N * b.pruned) then Err 3 else read)

-- the bit at a position, as 0 or 1
abbrev pub bit_read : ℕ → Meaning → ℕ → Result ℕ ℕ
bit_read N b position = at_position N b position (Ok (bit_value (b.bit position)))

-- the chunk of a position, with zeros past the length, but status 18 if the size is not the width
abbrev pub chunk_read : ℕ → Meaning → ℕ → ℕ → Result (List ℕ) ℕ
chunk_read N b position size =
    if size == N then at_position N b position (Ok (chunk_from N b.bit (position / (8 * N))))
    else Err 18

-- the read, but status 2 if the range ends before it begins or past the length, and else status 3 if it begins before the retained bits
abbrev pub in_range : {A : Type 0} → ℕ → Meaning → ℕ → ℕ → Result A ℕ → Result A ℕ
in_range N b from to read =
    if nat_lt to from || nat_lt b.len to then Err 2
    else (if nat_lt from (8 * N * b.pruned) then Err 3 else read)

-- the bytes of the bits of a range, but status 18 if the size is not their number
abbrev pub bytes_read : ℕ → Meaning → ℕ → ℕ → ℕ → Result (List ℕ) ℕ
bytes_read N b from to size =
    if size == byte_count from to then in_range N b from to (Ok (packed b.bit from to)) else Err 18

-- what a query reads
abbrev pub queried : Query → ℕ → Meaning → Result ℕ ℕ
queried Len N b = Ok b.len
queried PrunedChunks N b = Ok b.pruned
queried (NextOne from) N b = found (next_one N b from)
queried (NextZero from) N b = found (next_zero N b from)
queried (PrevOne end) N b = found (prev_one N b end)
queried (PrevZero end) N b = found (prev_zero N b end)
queried (CountOnes from to) N b = Ok (ones_count N b from to)
queried (SelectOne k) N b = found (select_one N b k)
