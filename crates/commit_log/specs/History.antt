-- The history of a bitmap as a compacted log: its first kept state, and one commit for each later one. A chunk has n bytes.
use Rattle.std.specs.Prelude.{◌≡◌, ℕ, ◌-◌, ◌^◌, ◌<◌, ◌≤◌, List, [], ◌∷◌, length, Option, Some, None, IfSome, SomeIff, slice_get}
use Rattle.std.specs.List.{AllByRecursion}
use Rattle.bitmap_core.specs.PrunedBits.{PrunedBits, bit_len}
use Rattle.historical_bitmap.specs.History.{RiseInNumber}
use Rattle.log_frames.specs.declared.frame.Place.{Place}
use Rattle.commit_log.specs.declared.base.Past.{Past}
use Rattle.commit_log.specs.declared.base.Past.TheVariants.{NoCommit, Dropped, KeptUnder}
use Rattle.commit_log.specs.Base.{Base}
use Rattle.commit_log.specs.Entries.{Entry}
use Rattle.commit_log.specs.Entries.Entry.{Commit}
use Rattle.commit_log.specs.Kept.{Kept, change_to}
use Rattle.commit_log.specs.Logs.{log_bytes, place_of}

-- what is known of the commits of a state of which none is kept
abbrev pub past_without : Option ℕ → Past
past_without None = NoCommit
past_without (Some number) = Dropped number

-- the base of these kept states: the first one, with the number of the others, or the current bitmap if none is kept
abbrev pub base_of : PrunedBits → Option ℕ → List (ℕ × PrunedBits) → Base
base_of current last [] = record { bits = current; past = past_without last }
base_of current last (first ∷ later) =
    record { bits = first.1; past = KeptUnder first.0 (length later) }

-- the commits of kept states: each has the change from the state before it, and the first one that from a given bitmap
abbrev pub commits_from : ℕ → PrunedBits → List (ℕ × PrunedBits) → List Entry
commits_from n old [] = []
commits_from n old (kept ∷ later) =
    Commit (change_to n kept.0 old kept.1) ∷ commits_from n kept.1 later

-- the commits of the kept states after the first one
abbrev pub later_commits : ℕ → List (ℕ × PrunedBits) → List Entry
later_commits n [] = []
later_commits n (first ∷ later) = commits_from n first.1 later

-- the base of the history of a state
abbrev pub history_base : Kept → Base
history_base s = base_of s.current s.last s.history

-- the entries of the history of a state
abbrev pub history_entries : ℕ → Kept → List Entry
history_entries n s = later_commits n s.history

-- the bytes of the history of a state
abbrev pub history_bytes : ℕ → Kept → List ℕ
history_bytes n s = log_bytes n (history_base s) (history_entries n s)

-- the place after the history of a state
abbrev pub history_place : ℕ → Kept → Place
history_place n s = place_of n (history_base s) (history_entries n s)

-- a result is a size, or nothing if it does not fit 64 bits
abbrev pub IsSizeOf : ℕ → Option ℕ → Type 0
IsSizeOf size found = SomeIff found (size < 2 ^ 64) size

-- the last of some kept states, if there is one
abbrev pub last_of : List (ℕ × PrunedBits) → Option (ℕ × PrunedBits)
last_of history = slice_get history (length history - 1)

-- the last kept state, if there is one, is the current bitmap, and its number is the last number
abbrev pub IsHistory : Kept → Type 0
IsHistory s = IfSome (last_of s.history) (λ kept. (s.last ≡ Some kept.0) × (s.current ≡ kept.1))

-- the pruned counts of kept states do not fall, and the first one is at least a given count
abbrev pub PrunesFrom : ℕ → List (ℕ × PrunedBits) → Type 0
PrunesFrom count [] = Unit {0}
PrunesFrom count (kept ∷ later) = (count ≤ kept.1.pruned) × PrunesFrom kept.1.pruned later

-- a state whose history is a log: its numbers rise, and none is the reserved one; its pruned counts do not fall; and its lengths and the number of bytes of the log fit 64 bits
pub record HasLog (n : ℕ) (s : Kept) : Type 0 where
  pub rise : RiseInNumber s.history
  pub numbers : AllByRecursion (λ kept. kept.0 < 2 ^ 64 - 1) s.history
  pub last : IfSome s.last (λ number. number < 2 ^ 64 - 1)
  pub pruned : PrunesFrom 0 s.history
  pub lens : AllByRecursion (λ kept. bit_len n kept.1 < 2 ^ 64) s.history
  pub len : bit_len n s.current < 2 ^ 64
  pub small : length (history_bytes n s) < 2 ^ 64
