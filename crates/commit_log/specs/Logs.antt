-- The bytes of a log, and the state that they make. A chunk has n bytes.
use Rattle.std.specs.Prelude.{ℕ, ◌-◌, ◌^◌, ◌<◌, List, [], ◌∷◌, ◌++◌, length, map, take}
use Rattle.log_frames.specs.Frames.{frame, frames, next, place_after, whole_in}
use Rattle.log_frames.specs.Header.{first_place, header}
use Rattle.log_frames.specs.declared.frame.Place.{Place}
use Rattle.commit_log.specs.Accepted.{Accepts}
use Rattle.commit_log.specs.Base.{Base, FitsBase, base_kept, encode_base}
use Rattle.commit_log.specs.Entries.{Entry, FitsEntry, encode_entry}
use Rattle.commit_log.specs.Kept.{Kept, after, after_all}

-- the bodies of the frames of a log: its base, and its entries in order
abbrev pub bodies : ℕ → Base → List Entry → List (List ℕ)
bodies n base entries = encode_base n base ∷ map encode_entry entries

-- the bytes of a log: its header, and a frame for the base and for each entry
abbrev pub log_bytes : ℕ → Base → List Entry → List ℕ
log_bytes n base entries = header n ++ frames (first_place n) (bodies n base entries)

-- the place after a log, at which its next entry goes
abbrev pub place_of : ℕ → Base → List Entry → Place
place_of n base entries = place_after (first_place n) (bodies n base entries)

-- the state that a log makes: what its entries make of its base
abbrev pub state_of : ℕ → Base → List Entry → Kept
state_of n base entries = after_all n (base_kept base) entries

-- an entry that a log may go on with after a state: the state accepts it, and its encoding is the body of a frame that is read again
pub record MayFollow (n : ℕ) (s : Kept) (e : Entry) : Type 0 where
  pub fits : FitsEntry n e
  pub small : length (encode_entry e) < 2 ^ 64
  pub accepted : Accepts n s e

-- each entry may follow the state that those before it make
abbrev pub GoesOn : ℕ → Kept → List Entry → Type 0
GoesOn n s [] = Unit {0}
GoesOn n s (e ∷ es) = MayFollow n s e × GoesOn n (after n s e) es

-- a base and entries that make a log
pub record IsLog (n : ℕ) (base : Base) (entries : List Entry) : Type 0 where
  pub fits : FitsBase n base
  pub small : length (encode_base n base) < 2 ^ 64
  pub goes_on : GoesOn n (base_kept base) entries

-- the entries of a log that are whole in its first m bytes, where the base is whole too
abbrev pub entries_in : ℕ → ℕ → Base → List Entry → List Entry
entries_in m n base entries =
    take (whole_in (m - length (log_bytes n base [])) (map encode_entry entries)) entries

-- what was appended to a log and not taken from it yet, and the place after it
pub record LogView : Type 0 where
  pub bytes : List ℕ
  pub place : Place

-- a log after a frame with a body is appended to it
abbrev pub framed : LogView → List ℕ → LogView
framed log body = record { bytes = log.bytes ++ frame log.place body; place = next log.place body }

-- a log after an entry is appended to it
abbrev pub appended : LogView → Entry → LogView
appended log e = framed log (encode_entry e)
