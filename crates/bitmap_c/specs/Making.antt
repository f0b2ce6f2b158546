-- What the calls do that make, read and copy a session.
use Rattle.std.specs.Prelude.{◌≡◌, ℕ, Bool, true, ◌&&◌, ◌⊎◌, List, length, Option, None, Some, nat_le, MatchBool, MatchOption}
use Rattle.std.specs.Option.{option_map}
use Rattle.bitmap_core.specs.Decoding.{DecodeError, pruned_error, pruned_in}
use Rattle.bitmap_core.specs.Decoding.DecodeError.{InvalidLength}
use Rattle.bitmap_core.specs.Encoding.{pruned_encoding}
use Rattle.historical_bitmap.specs.History.{kept_under}
use Rattle.bitmap_session.specs.Machine.{Machine, checkout_refusal, first_machine, machine_with, wants_no_batch}
use Rattle.bitmap_c.specs.declared.any.AnySession.{AnySession}
use Rattle.bitmap_c.specs.Statuses.{decode_status, refusal_status}
use Rattle.bitmap_c.specs.Widths.{is_width, log_of, machine, width, without_log}

-- an empty handle gets a session with the property, with DONE, or stays empty, with NO_MEMORY
abbrev pub Fills : (AnySession → Type 0) → ℕ → Option AnySession → Type 0
Fills Is status new =
    ((status ≡ 13) × (new ≡ None))
    ⊎ ((status ≡ 0) × ((made : AnySession) × (new ≡ Some made) × Is made))

-- a session without a log is the first machine of a width
abbrev pub IsFirst : ℕ → AnySession → Type 0
IsFirst n made = (width made ≡ n) × (machine made ≡ first_machine) × (log_of made ≡ None)

-- a full handle is unchanged, with FULL_HANDLE; an empty one gets the first machine of a width, or NO_SUCH_WIDTH
abbrev pub Makes : Option AnySession → ℕ → ℕ → Option AnySession → Type 0
Makes (Some old) n status new = (status ≡ 16) × (new ≡ Some old)
Makes None n status new =
    MatchBool (is_width n) (Fills (IsFirst n) status new) ((status ≡ 17) × (new ≡ None))

-- a session is equal to another one
abbrev pub IsEqual : AnySession → AnySession → Type 0
IsEqual old made = made ≡ old

-- a session is equal to another one, but has no log
abbrev pub IsCopy : AnySession → AnySession → Type 0
IsCopy old made = made ≡ without_log old

-- an empty handle has no copy, with EMPTY_HANDLE; a copy that is full is unchanged, with FULL_HANDLE; an empty one gets an equal session without a log
abbrev pub Copies : Option AnySession → Option AnySession → ℕ → Option AnySession → Type 0
Copies None copy status new = (status ≡ 15) × (new ≡ copy)
Copies (Some old) (Some copy) status new = (status ≡ 16) × (new ≡ Some copy)
Copies (Some old) None status new = Fills (IsCopy old) status new

-- a session has the width of another one, and the bitmap that the other one keeps under a number, without a batch, commits, a last number and a log
abbrev pub IsVersion : AnySession → ℕ → AnySession → Type 0
IsVersion old number made =
    (width made ≡ width old)
    × (Some (machine made) ≡ option_map machine_with
    (kept_under (machine old).state.history number))
    × (log_of made ≡ None)

-- as Copies, with the bitmap that the session keeps under a number, or the status of why there is none
abbrev pub ChecksOut : Option AnySession → ℕ → Option AnySession → ℕ → Option AnySession → Type 0
ChecksOut None number copy status new = (status ≡ 15) × (new ≡ copy)
ChecksOut (Some old) number (Some copy) status new = (status ≡ 16) × (new ≡ Some copy)
ChecksOut (Some old) number None status new =
    MatchOption (checkout_refusal (machine old).state number)
    (Fills (IsVersion old number) status new)
    (λ refusal. (status ≡ refusal_status refusal) × (new ≡ None))

-- adding an index, or dropping it, has the status EMPTY_HANDLE of an empty handle, and IN_BATCH in a batch; otherwise it is DONE, or NO_MEMORY if the index was to be added
abbrev pub Indexes : Option AnySession → Bool → ℕ → Type 0
Indexes None on status = status ≡ 15
Indexes (Some old) on status = MatchOption (wants_no_batch (machine old).state)
    ((status ≡ 0) ⊎ ((on ≡ true) × (status ≡ 13)))
    (λ refusal. status ≡ refusal_status refusal)

-- a number of bits is from `least` to `most`, both included
abbrev pub between : ℕ → ℕ → ℕ → Bool
between least most bits = nat_le least bits && nat_le bits most

-- the machine with the bitmap that the bytes encode, without a batch, commits and a last number
abbrev pub read_machine : List ℕ → Machine
read_machine bytes = machine_with (pruned_in bytes)

-- the number of bytes of the encoding that the bytes begin with
abbrev pub encoding_size : ℕ → List ℕ → ℕ
encoding_size n bytes = length (pruned_encoding n (pruned_in bytes))

-- the number of retained bits of a decode error that is InvalidLength, and otherwise the old number
abbrev pub length_or : Option DecodeError → ℕ → ℕ
length_or (Some (InvalidLength bits)) old = bits
length_or _ old = old

-- a session of a width has the bitmap that the bytes encode, and no log
abbrev pub IsRead : ℕ → List ℕ → AnySession → Type 0
IsRead n bytes made = (width made ≡ n) × (machine made ≡ read_machine bytes) × (log_of made ≡ None)

-- as Makes, with the bitmap that the bytes encode, or the status of their decode error
abbrev pub Reads : Option AnySession → ℕ → (ℕ → Bool) → List ℕ → ℕ → Option AnySession → Type 0
Reads (Some old) n range bytes status new = (status ≡ 16) × (new ≡ Some old)
Reads None n range bytes status new = MatchBool (is_width n)
    (MatchOption (pruned_error n range bytes)
    (Fills (IsRead n bytes) status new)
    (λ decode_error. (status ≡ decode_status (Some decode_error)) × (new ≡ None)))
    ((status ≡ 17) × (new ≡ None))

-- the status of an error of a read; one that is no decode error is out of memory
abbrev pub read_status : Option DecodeError → ℕ
read_status (Some decode_error) = decode_status (Some decode_error)
read_status None = 13
