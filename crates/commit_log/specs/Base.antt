-- The base of a log: the bitmap that it begins with. A chunk has n bytes. A number takes eight bytes, most significant first.
use Rattle.std.specs.Prelude.{◌≡◌, ℕ, ◌+◌, ◌-◌, ◌^◌, ◌<◌, ◌==◌, ◌&&◌, Bool, true, false, not, nat_lt, List, [], ◌∷◌, ◌++◌, length, map, drop, slice_index, Option, Some, None, Result, Ok, if◌then◌else◌}
use Rattle.std.specs.Int.{w64, to_be_bytes}
use Rattle.bitmap_core.specs.Decoding.{DecodeError as StateError, chunk_bytes, decode_error, number as number_in, pruned_tests}
use Rattle.bitmap_core.specs.Encoding.{pruned_encoding}
use Rattle.bitmap_core.specs.PrunedBits.{PrunedBits, bit_len}
use Rattle.commit_log.specs.declared.base.BaseError.{BaseError}
use Rattle.commit_log.specs.declared.base.BaseError.TheVariants as errors
use Rattle.commit_log.specs.declared.base.Past.{Past}
use Rattle.commit_log.specs.declared.base.Past.TheVariants.{NoCommit, Dropped, KeptUnder}
use Rattle.commit_log.specs.declared.entry.DecodeError.{DecodeError}
use Rattle.commit_log.specs.Entries.{◌>>=◌, decode_number}
use Rattle.commit_log.specs.Kept.{Kept}

-- a base: a bitmap, and what is known of the commits before it
pub record Base : Type 0 where
  pub bits : PrunedBits
  pub past : Past

-- the byte that says which it is
abbrev pub flag : Past → ℕ
flag NoCommit = 0
flag (Dropped number) = 1
flag (KeptUnder number count) = 2

-- the number, or zero if there is none
abbrev pub past_number : Past → ℕ
past_number NoCommit = 0
past_number (Dropped number) = number
past_number (KeptUnder number count) = number

-- the number of later commits of the history, or zero if no state is kept
abbrev pub past_count : Past → ℕ
past_count NoCommit = 0
past_count (Dropped number) = 0
past_count (KeptUnder number count) = count

-- a flag, a number and a count are those of what is known
abbrev pub IsPast : ℕ → ℕ → ℕ → Past → Type 0
IsPast known number count past = (flag past ≡ known) × (past_number past ≡ number)
    × (past_count past ≡ count)

-- the encoding of a base: the byte 4, the flag, the number, the count, and the encoding of the bitmap
unfoldable pub encode_base : ℕ → Base → List ℕ
encode_base n b =
    4 ∷ flag b.past ∷ (to_be_bytes w64 (past_number b.past)
    ++ (to_be_bytes w64 (past_count b.past) ++ pruned_encoding n b.bits))

-- two numbers, and the bytes after them
unfoldable pub decode_numbers : List ℕ → Result (ℕ × ℕ × List ℕ) DecodeError
decode_numbers bytes =
    decode_number bytes >>= λ first.
    decode_number first.1 >>= λ second.
    Ok (first.0, second.0, second.1)

-- a base whose encoding is read again: the number is not the reserved one, and the count and the length fit 64 bits
pub record FitsBase (n : ℕ) (b : Base) : Type 0 where
  pub number : past_number b.past < 2 ^ 64 - 1
  pub count : past_count b.past < 2 ^ 64
  pub len : bit_len n b.bits < 2 ^ 64
  pub pruned : b.bits.pruned < 2 ^ 64

-- the last number
abbrev pub past_last : Past → Option ℕ
past_last NoCommit = None
past_last (Dropped number) = Some number
past_last (KeptUnder number count) = Some number

-- the kept states: that bitmap, or none
abbrev pub past_history : PrunedBits → Past → List (ℕ × PrunedBits)
past_history bits NoCommit = []
past_history bits (Dropped number) = []
past_history bits (KeptUnder number count) = (number, bits) ∷ []

-- the state that a base is
abbrev pub base_kept : Base → Kept
base_kept b = record {
  current = b.bits;
  history = past_history b.bits b.past;
  last = past_last b.past;
}

-- ---- errors

-- what can be wrong with the bytes of a base
pub data Reason : Type 0 where
  Tag : Reason
  Short : Reason
  Flag : Reason
  Number : Reason
  Count : Reason
  State : StateError → Reason
  Long : Reason

-- the reason of the first test that holds, if one does
abbrev pub first_reason : List (Bool × Reason) → Option Reason
first_reason [] = None
first_reason (test ∷ tests) = if test.0 then Some test.1 else first_reason tests

-- whether there is a first byte, and it is not the tag of a base
abbrev pub has_other_tag : List ℕ → Bool
has_other_tag [] = false
has_other_tag (tag ∷ rest) = not (tag == 4)

-- the second byte
abbrev pub flag_in : List ℕ → ℕ
flag_in bytes = slice_index bytes 1

-- whether a last number is one that a flag does not allow: not 0 under flag 0, or the reserved number under another flag
abbrev pub is_wrong_number : ℕ → ℕ → Bool
is_wrong_number flag number = if flag == 0 then not (number == 0) else (number == 2 ^ 64 - 1)

-- whether a count is one that a flag does not allow: not 0 under flag 0 or 1
abbrev pub is_wrong_count : ℕ → ℕ → Bool
is_wrong_count flag count = nat_lt flag 2 && not (count == 0)

-- the tests of a flag, a last number and a count, in order, each with its reason
abbrev pub past_tests : ℕ → ℕ → ℕ → List (Bool × Reason)
past_tests flag number count =
    (is_wrong_number flag number, Number) ∷ (is_wrong_count flag count, Count) ∷ []

-- whether bytes are left after the pruned bitmap that some bytes encode
abbrev pub has_more : ℕ → List ℕ → Bool
has_more n text = nat_lt (16 + chunk_bytes n (drop 8 text)) (length text)

-- a test of a pruned bitmap, as one of the state of a base
abbrev pub of_state : Bool × StateError → Bool × Reason
of_state test = (test.0, State test.1)

-- the tests of bytes that are to be the state of a base, in order, each with its reason; a range says which numbers of retained bits it admits
unfoldable pub state_tests : ℕ → (ℕ → Bool) → List ℕ → List (Bool × Reason)
state_tests n range text = map of_state (pruned_tests n range text) ++ (has_more n text, Long) ∷ []

-- the tests of bytes that are to be a base, in order, each with its reason
abbrev pub base_tests : ℕ → (ℕ → Bool) → List ℕ → List (Bool × Reason)
base_tests n range bytes =
    (has_other_tag bytes, Tag)
    ∷ (nat_lt (length bytes) 2, Short)
    ∷ (nat_lt 2 (flag_in bytes), Flag)
    ∷ (nat_lt (length bytes) 18, Short)
    ∷ past_tests (flag_in bytes) (number_in (drop 2 bytes)) (number_in (drop 10 bytes))
    ++ state_tests n range (drop 18 bytes)

-- the first error of bytes that are to be a base, if there is one
unfoldable pub base_error : ℕ → (ℕ → Bool) → List ℕ → Option Reason
base_error n range bytes = first_reason (base_tests n range bytes)

-- an error names this reason; out of memory is no reason
abbrev pub Names : BaseError → Option Reason → Type 0
Names errors.Tag found = found ≡ Some Tag
Names errors.Short found = found ≡ Some Short
Names errors.Flag found = found ≡ Some Flag
Names errors.Number found = found ≡ Some Number
Names errors.Count found = found ≡ Some Count
Names (errors.State e) found = (why : StateError) × (decode_error e ≡ Some why)
    × (found ≡ Some (State why))
Names errors.Long found = found ≡ Some Long
Names (errors.Memory e) found = found ≡ None

-- why bytes were not read as a base with a number of retained bits in a range: the first error, or there is none, and an allocation failed
abbrev pub IsBaseErrorWithin : ℕ → (ℕ → Bool) → List ℕ → BaseError → Type 0
IsBaseErrorWithin n range bytes e = Names e (base_error n range bytes)

-- why bytes were not read as a base with any number of retained bits
abbrev pub IsBaseError : ℕ → List ℕ → BaseError → Type 0
IsBaseError n bytes e = IsBaseErrorWithin n (λ len. true) bytes e
