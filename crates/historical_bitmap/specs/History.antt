-- Past states: the bitmap of each kept commit, by number. A chunk has n bytes.
use Rattle.std.specs.Prelude.{◌≡◌, ℕ, ◌-◌, ◌*◌, ◌^◌, ◌<◌, ◌≤◌, Bool, true, List, [], ◌∷◌, length, map, take, Option, Some, None, IfSome, slice_get, nat_eq, nat_lt, nat_le}
use Rattle.std.specs.List.{All, filter}
use Rattle.std.specs.List.Sorted.{IsStrictlySortedBy}
use Rattle.std.specs.Map.{lookup, keys_of}
use Rattle.std.specs.Option.{option_map, option_or}
use Rattle.std.specs.Ordering.{nat_cmp}
use Rattle.bitmap_bytes.specs.Chunk.{IsWidth}
use Rattle.bitmap_core.specs.PrunedBits.{PrunedBits, bit_len}
use Rattle.historical_bitmap.specs.Record.{ReverseRecord, before, kept}
use Rattle.historical_bitmap.specs.Undo.{CanUndo}

-- what is kept under a number, if anything is
abbrev pub kept_under : {X : Type 0} → List (ℕ × X) → ℕ → Option X
kept_under history number = lookup (nat_eq number) history

-- the last kept number, which is the greatest if the numbers ascend
abbrev pub latest : {X : Type 0} → List (ℕ × X) → Option ℕ
latest history = option_map (λ e. e.0) (slice_get history (length history - 1))

-- the first kept number, which is the least if the numbers ascend
abbrev pub earliest : {X : Type 0} → List (ℕ × X) → Option ℕ
earliest history = option_map (λ e. e.0) (slice_get history 0)

-- the kept numbers strictly ascend
abbrev pub RiseInNumber : {X : Type 0} → List (ℕ × X) → Type 0
RiseInNumber history = IsStrictlySortedBy nat_cmp (keys_of history)

-- the entries whose number is at least this one
abbrev pub from_number : {X : Type 0} → ℕ → List (ℕ × X) → List (ℕ × X)
from_number number history = filter (λ e. nat_le number e.0) history

-- the entries whose number is at most this one
abbrev pub up_to_number : {X : Type 0} → ℕ → List (ℕ × X) → List (ℕ × X)
up_to_number number history = filter (λ e. nat_le e.0 number) history

-- the entries whose number is greater than this one
abbrev pub past_number : {X : Type 0} → ℕ → List (ℕ × X) → List (ℕ × X)
past_number number history = filter (λ e. nat_lt number e.0) history

-- the numbers of a list that are at least this one
abbrev pub at_least : ℕ → List ℕ → List ℕ
at_least least numbers = filter (nat_le least) numbers

-- the entries before the latest one
abbrev pub before_latest : {X : Type 0} → List X → List X
before_latest history = take (length history - 1) history

-- the current bitmap with the records of some commits undone, the last of them first
abbrev pub undone : ℕ → List (ℕ × ReverseRecord) → PrunedBits → PrunedBits
undone n [] current = current
undone n (commit ∷ later) current = before n commit.1 (undone n later current)

-- the bitmap that the last commit up to a number left: the current one with the records past the number undone
abbrev pub left_by : ℕ → ℕ → List (ℕ × ReverseRecord) → PrunedBits → PrunedBits
left_by n number commits current = undone n (past_number number commits) current

-- the length and the number of pruned chunks of the bitmap that the last commit up to a number left
pub record IsLeftBy (n number : ℕ) (commits : List (ℕ × ReverseRecord)) (current : PrunedBits)
    (len pruned : ℕ) : Type 0 where
  pub width : IsWidth n
  pub len_is : bit_len n (left_by n number commits current) ≡ len
  pub pruned_is : (left_by n number commits current).pruned ≡ pruned
  pub within : 8 * n * pruned ≤ len

-- the entries of each record strictly ascend by chunk
abbrev pub EntriesRise : List (ℕ × ReverseRecord) → Type 0
EntriesRise commits = All (λ commit. IsStrictlySortedBy nat_cmp (keys_of commit.1.entries)) commits

-- the entries of the latest record, if there is one, strictly ascend by chunk
abbrev pub LatestRises : List (ℕ × ReverseRecord) → Type 0
LatestRises commits = IfSome (slice_get commits (length commits - 1))
    (λ commit. IsStrictlySortedBy nat_cmp (keys_of commit.1.entries))

-- the old bytes of chunk i in the first of some records that keeps any
abbrev pub first_kept : List (ℕ × ReverseRecord) → ℕ → Option (List ℕ)
first_kept [] i = None
first_kept (commit ∷ later) i = option_or (kept commit.1 i) (first_kept later i)

-- the number of each commit with the bitmap that it left: the current one with the later records undone
abbrev pub snapshots : ℕ → List (ℕ × ReverseRecord) → PrunedBits → List (ℕ × PrunedBits)
snapshots n [] current = []
snapshots n (commit ∷ later) current =
    (commit.0, undone n later current) ∷ snapshots n later current

-- the number of each commit with the count of entries of its record
abbrev pub costs : List (ℕ × ReverseRecord) → List (ℕ × ℕ)
costs commits = map (λ commit. (commit.0, length commit.1.entries)) commits

-- the record of each commit can be undone in steps from the bitmap that the commit left
abbrev pub AllCanUndo : ℕ → List (ℕ × ReverseRecord) → PrunedBits → Type 0
AllCanUndo n [] current = Unit {0}
AllCanUndo n (commit ∷ later) current = CanUndo n commit.1 (undone n later current)
    × AllCanUndo n later current

-- the last number is below the reserved one, and no number is above it; without a last number there are no numbers
abbrev pub AreUpTo : List ℕ → Option ℕ → Type 0
AreUpTo numbers None = numbers ≡ []
AreUpTo numbers (Some last) = (last < 2 ^ 64 - 1) × All (λ number. number ≤ last) numbers

-- whether a number is above the last number, or there is none
abbrev pub is_above : Option ℕ → ℕ → Bool
is_above None number = true
is_above (Some last) number = nat_lt last number

-- the latest kept number, if there is one, is the last number
abbrev pub LatestIsLast : {X : Type 0} → List (ℕ × X) → Option ℕ → Type 0
LatestIsLast history last = IfSome (latest history) (λ number. last ≡ Some number)

-- the invariant of kept commits: each record can be undone, and the numbers ascend up to the last number, which is the latest of them if there are any
pub record AreKept (n : ℕ) (current : PrunedBits) (commits : List (ℕ × ReverseRecord))
    (last : Option ℕ) : Type 0 where
  pub undo : AllCanUndo n commits current
  pub rise : RiseInNumber commits
  pub numbers : AreUpTo (keys_of commits) last
  pub ends : LatestIsLast commits last
