-- Deltas: what brings a replica from one state to a later one. A chunk has n bytes. A number takes eight bytes, most significant first.
use Rattle.std.specs.Prelude.{◌≡◌, ℕ, ◌-◌, ◌^◌, ◌<◌, ◌≤◌, List, [], ◌∷◌, ◌++◌, length, take, drop, Option, Some, None, Result, Ok, Err, codes, nat_eq, nat_lt, ◌==◌, not, if◌then◌else◌}
use Rattle.std.specs.List.{flat_map, starts_with}
use Rattle.std.specs.Option.{unwrap_or}
use Rattle.log_frames.specs.Digest.{digest}
use Rattle.log_frames.specs.Frames.{be64, number_at}
use Rattle.bitmap_core.specs.PrunedBits.{PrunedBits, bit_len}
use Rattle.historical_bitmap.specs.Changes.{retained_bytes}
use Rattle.historical_bitmap.specs.History.{kept_under}
use Rattle.commit_log.specs.declared.deltas.DeltaFields.{DeltaFields}
use Rattle.commit_log.specs.declared.deltas.DeltaError.{DeltaError}
use Rattle.commit_log.specs.declared.deltas.DeltaError.TheVariants as errors
use Rattle.commit_log.specs.declared.entry.DecodeError.{DecodeError}
use Rattle.commit_log.specs.Accepted.{Accepts, IsChangeError}
use Rattle.commit_log.specs.Entries.{Change, FitsChange, decode_change, encode_change, view_change}
use Rattle.commit_log.specs.Entries.Entry.{Commit}
use Rattle.commit_log.specs.Kept.{Kept, after, change_to}

-- a delta: the number, the length and the pruned count of the older state, the digest of the bytes that it replaces there, and the change to the newer state
pub record Delta : Type 0 where
  pub number : ℕ
  pub len : ℕ
  pub pruned : ℕ
  pub replaced_digest : ℕ
  pub change : Change

-- the bytes that a list of chunks replaces: those of each listed chunk that the old bitmap retains, in the order of the list
abbrev pub replaced : ℕ → PrunedBits → List (ℕ × List ℕ) → List ℕ
replaced n old chunks = flat_map (λ e. unwrap_or (retained_bytes n old e.0) []) chunks

-- the delta from a bitmap under a number to another: its change lists the chunks that differ
abbrev pub delta_between : ℕ → ℕ → PrunedBits → ℕ → PrunedBits → Delta
delta_between n from old to new = record {
  number = from;
  len = bit_len n old;
  pruned = old.pruned;
  replaced_digest = digest (replaced n old (change_to n to old new).chunks);
  change = change_to n to old new;
}

-- ---- encoding

-- the bytes that every delta begins with
abbrev pub magic : List ℕ
magic = codes "MPBDELTA"

-- what a delta begins with: the magic bytes, the version of the format, which is 1, the width, and the number, the length and the pruned count of the older state
unfoldable pub older_fields : ℕ → ℕ → ℕ → ℕ → List ℕ
older_fields n number len pruned =
    magic ++ (be64 1 ++ (be64 n ++ (be64 number ++ (be64 len ++ be64 pruned))))

-- the fields of a delta: what is said of the older state, the digest of the bytes that are replaced, and the change
unfoldable pub delta_fields : ℕ → Delta → List ℕ
delta_fields n d =
    older_fields n d.number d.len d.pruned ++ (be64 d.replaced_digest ++ encode_change d.change)

-- the encoding of a delta: its fields, and their digest
unfoldable pub encode_delta : ℕ → Delta → List ℕ
encode_delta n d = delta_fields n d ++ be64 (digest (delta_fields n d))

-- a delta whose encoding is read again
pub record FitsDelta (n : ℕ) (d : Delta) : Type 0 where
  pub number : d.number < 2 ^ 64
  pub len : d.len < 2 ^ 64
  pub pruned : d.pruned < 2 ^ 64
  pub replaced_digest : d.replaced_digest < 2 ^ 64
  pub change : FitsChange n d.change

-- the encoded delta between two states, if there are both
abbrev pub encoded_between : ℕ → ℕ → Option PrunedBits → ℕ → Option PrunedBits → Option (List ℕ)
encoded_between n from (Some old) to (Some new) =
    Some (encode_delta n (delta_between n from old to new))
encoded_between n from (Some old) to None = None
encoded_between n from None to new = None

-- the encoded delta between the states under two numbers, if both are kept and the first number is below the second
abbrev pub delta_of : ℕ → List (ℕ × PrunedBits) → ℕ → ℕ → Option (List ℕ)
delta_of n history from to =
    if nat_lt from to then encoded_between n from (kept_under history from) to
    (kept_under history to)
    else None

-- ---- decoding

-- the bytes of a delta before its last digest
abbrev pub before_digest : List ℕ → List ℕ
before_digest bytes = take (length bytes - 8) bytes

-- the delta with the fields of some bytes and this change, or the error of a change that is cut off
abbrev pub with_fields : List ℕ → Result Change DecodeError → Result Delta DeltaError
with_fields bytes (Ok change) =
    Ok (record {
      number = number_at 24 bytes;
      len = number_at 32 bytes;
      pruned = number_at 40 bytes;
      replaced_digest = number_at 48 bytes;
      change = change;
    })
with_fields bytes (Err e) = Err errors.Short

-- the delta that bytes encode at a width, or the first error of the bytes
unfoldable pub decode_delta : ℕ → List ℕ → Result Delta DeltaError
decode_delta n bytes =
    if nat_lt (length bytes) 88 then Err errors.Short
    else if not (starts_with nat_eq bytes magic) then Err errors.NotADelta
    else if not (number_at 8 bytes == 1) then Err (errors.Version (number_at 8 bytes))
    else if not (number_at (length bytes - 8) bytes == digest (before_digest bytes))
    then Err errors.BadDigest
    else if not (number_at 16 bytes == n) then Err (errors.Width (number_at 16 bytes))
    else with_fields bytes (decode_change n (drop 56 (before_digest bytes)))

-- a delta that was read
abbrev pub view_delta : ℕ → DeltaFields → Delta
view_delta n d =
    record {
      number = d.number;
      len = d.len;
      pruned = d.pruned;
      replaced_digest = d.replaced_digest;
      change = view_change n d.change;
    }

-- ---- what is applied, and why not

-- a delta starts at a state: the state has the last number, the length and the pruned count that the delta names, and the bytes that it replaces have the digest
pub record StartsAt (n : ℕ) (s : Kept) (d : Delta) : Type 0 where
  pub number : s.last ≡ Some d.number
  pub len : bit_len n s.current ≡ d.len
  pub pruned : s.current.pruned ≡ d.pruned
  pub replaced_bytes : digest (replaced n s.current d.change.chunks) ≡ d.replaced_digest

-- bytes bring a state to another: they encode a delta that starts at the first, and its change is accepted there and makes the second
pub record Brings (n : ℕ) (bytes : List ℕ) (s t : Kept) : Type 0 where
  pub delta : Delta
  pub fits : FitsDelta n delta
  pub encoded : bytes ≡ encode_delta n delta
  pub starts : StartsAt n s delta
  pub accepted : Accepts n s (Commit delta.change)
  pub state : t ≡ after n s (Commit delta.change)

-- bytes encode a delta of which this holds
pub record Encodes (n : ℕ) (bytes : List ℕ) (P : Delta → Type 0) : Type 0 where
  pub delta : Delta
  pub fits : FitsDelta n delta
  pub encoded : bytes ≡ encode_delta n delta
  pub holds : P delta

-- why bytes were not applied to a state: an error of the bytes, else the delta does not start at the state, else the state does not accept the change, else an allocation failed
abbrev pub IsDeltaError : ℕ → Kept → List ℕ → DeltaError → Type 0
IsDeltaError n s bytes errors.NotAtBase = Encodes n bytes (λ d. StartsAt n s d → ⊥)
IsDeltaError n s bytes (errors.Change e) =
    Encodes n bytes (λ d. StartsAt n s d × IsChangeError n s.current s.last d.change e)
IsDeltaError n s bytes (errors.Memory e) =
    Encodes n bytes (λ d. StartsAt n s d × Accepts n s (Commit d.change))
IsDeltaError n s bytes error = decode_delta n bytes ≡ Err error

-- a step from a bitmap under a number to one under another, which a delta can make: the number rises, the pruned count does not fall, and the number and the lengths fit
pub record IsStep (n from : ℕ) (old : PrunedBits) (to : ℕ) (new : PrunedBits) : Type 0 where
  pub order : from < to
  pub unreserved : to < 2 ^ 64 - 1
  pub rises : old.pruned ≤ new.pruned
  pub old_len : bit_len n old < 2 ^ 64
  pub new_len : bit_len n new < 2 ^ 64

-- a state after another bitmap is committed under a number
abbrev pub committed : Kept → ℕ → PrunedBits → Kept
committed s number new =
    record { current = new; history = s.history ++ (number, new) ∷ []; last = Some number }
