-- The index of kept commits by chunk: the old bytes that their reverse records keep of a chunk. It has a row per chunk, with the bytes by the
-- number of the commit. A place is a chunk and a number.
use Rattle.std.specs.Prelude.{◌≡◌, ℕ, ◌<◌, ◌≤◌, Bool, true, false, ◌&&◌, List, [], ◌∷◌, Option, Some, None, IfSome, MatchOption, ◌++◌, length, slice_get, slice_index_or, slice_set, unwrap_or, if◌then◌else◌, nat_eq, nat_le, nat_lt}
use Rattle.std.specs.List.{All, list_any}
use Rattle.std.specs.List.Sorted.{IsStrictlySortedBy}
use Rattle.std.specs.Map.{keys_of, lookup}
use Rattle.std.specs.Ordering.{nat_cmp}
use Rattle.std.specs.Option.{option_or}
use Rattle.bitmap_bytes.specs.Chunk.{IsWidth}
use Rattle.chunk_map.specs.Trie.{AreApart}
use Rattle.historical_bitmap.specs.History.{kept_under, RiseInNumber}
use Rattle.historical_bitmap.specs.Record.{ChunkDiff, ReverseRecord, kept, kept_bytes}

-- the old bytes that a record keeps of chunk i, if there is a record
abbrev pub kept_in : Option ReverseRecord → ℕ → Option (List ℕ)
kept_in None i = None
kept_in (Some r) i = kept r i

-- the row that an index has of chunk i, or an empty one if it has none
abbrev pub row_of : List (ℕ × List (ℕ × List ℕ)) → ℕ → List (ℕ × List ℕ)
row_of rows i = unwrap_or (lookup (nat_eq i) rows) []

-- the bytes that an index has in the row of chunk i at a number
abbrev pub bytes_at : List (ℕ × List (ℕ × List ℕ)) → ℕ → ℕ → Option (List ℕ)
bytes_at rows i number = lookup (nat_eq number) (row_of rows i)

-- at each chunk and number an index has the bytes that the record of the commit with that number keeps of the chunk, and no bytes if it keeps none
abbrev pub IsIndexOf : List (ℕ × List (ℕ × List ℕ)) → List (ℕ × ReverseRecord) → Type 0
IsIndexOf index commits = (i number : ℕ)
    → bytes_at index i number ≡ kept_in (kept_under commits number) i

-- the invariant of a list of kept commits with an index, or without one: the numbers ascend, and the index is that of the commits
pub record IsIndexed (n : ℕ) (commits : List (ℕ × ReverseRecord))
    (index : Option (List (ℕ × List (ℕ × List ℕ)))) : Type 0 where
  pub width : IsWidth n
  pub rise : RiseInNumber commits
  pub is_index : IfSome index (λ rows. IsIndexOf rows commits)

-- ---- conditions inside the code
-- whether one of some entries is for chunk i
abbrev pub names : List (ℕ × ChunkDiff) → ℕ → Bool
names entries i = list_any (λ entry. nat_eq i entry.0) entries

-- the old bytes of chunk i in the last of some entries that keeps any
abbrev pub last_kept : List (ℕ × ChunkDiff) → ℕ → Option (List ℕ)
last_kept [] i = None
last_kept (entry ∷ later) i =
    option_or (last_kept later i) (if nat_eq i entry.0 then kept_bytes entry.1 else None)

-- at a number, a new index has the old bytes of each chunk that some entries keep; else it has what the old index has
abbrev pub AddsPlaces : ℕ → List (ℕ × ChunkDiff) → List (ℕ × List (ℕ × List ℕ))
    → List (ℕ × List (ℕ × List ℕ)) → Type 0
AddsPlaces number entries old new = (i m : ℕ)
    → bytes_at new i m ≡ option_or (if nat_eq m number then last_kept entries i else None)
    (bytes_at old i m)

-- at a number, a new index has nothing for each chunk that some entries are for; else it has what the old index has
abbrev pub RemovesPlaces : ℕ → List (ℕ × ChunkDiff) → List (ℕ × List (ℕ × List ℕ))
    → List (ℕ × List (ℕ × List ℕ)) → Type 0
RemovesPlaces number entries old new = (i m : ℕ)
    → bytes_at new i m ≡ (if nat_eq m number && names entries i then None else bytes_at old i m)

-- the old and the new index have the same, except at a number for the chunks that some entries are for
abbrev pub KeepsOthers : ℕ → List (ℕ × ChunkDiff) → List (ℕ × List (ℕ × List ℕ))
    → List (ℕ × List (ℕ × List ℕ)) → Type 0
KeepsOthers number entries old new = (i m : ℕ) → (nat_eq m number && names entries i) ≡ false
    → bytes_at new i m ≡ bytes_at old i m

-- the bytes that a row has at the least number past a given one with which it has any
abbrev pub IsNextIn : List (ℕ × List ℕ) → ℕ → Option (List ℕ) → Type 0
IsNextIn row number next = MatchOption next
    ((m : ℕ) → number < m → lookup (nat_eq m) row ≡ None)
    (λ bytes. (found : ℕ) × (number < found) × (lookup (nat_eq found) row ≡ Some bytes)
    × ((m : ℕ) → number < m → m < found → lookup (nat_eq m) row ≡ None))

-- the bytes that an index has for chunk i at the least number past a given one with which it has any
abbrev pub IsNextKept : List (ℕ × List (ℕ × List ℕ)) → ℕ → ℕ → Option (List ℕ) → Type 0
IsNextKept rows i number next = IsNextIn (row_of rows i) number next

-- whether a row has bytes at a number past one and up to another
abbrev pub has_between : ℕ → ℕ → List (ℕ × List ℕ) → Bool
has_between from to row = list_any (λ kept. nat_lt from kept.0 && nat_le kept.0 to) row

-- the first chunk, from `first` up to, but not including, `end`, for which an index has bytes at a number past one and up to another, if there is one
abbrev pub IsNextBetween : List (ℕ × List (ℕ × List ℕ)) → ℕ → ℕ → ℕ → ℕ → Option ℕ → Type 0
IsNextBetween rows from to first end next = MatchOption next
    ((i : ℕ) → first ≤ i → i < end → has_between from to (row_of rows i) ≡ false)
    (λ chunk. (first ≤ chunk) × (chunk < end) × (has_between from to (row_of rows chunk) ≡ true)
    × ((i : ℕ) → first ≤ i → i < chunk → has_between from to (row_of rows i) ≡ false))

-- at chunk i and a number a new index has o, and else what the old index has
abbrev pub PutsAt : List (ℕ × List (ℕ × List ℕ)) → List (ℕ × List (ℕ × List ℕ)) → ℕ → ℕ
    → Option (List ℕ) → Type 0
PutsAt old new i number o = (j m : ℕ)
    → bytes_at new j m ≡ (if nat_eq m number && nat_eq j i then o else bytes_at old j m)

-- an index has no bytes at a number or past it
abbrev pub EndsBefore : ℕ → List (ℕ × List (ℕ × List ℕ)) → Type 0
EndsBefore number rows = (i m : ℕ) → number ≤ m → bytes_at rows i m ≡ None

-- the entries of the record at a position, if there is one, strictly ascend by chunk
abbrev pub RisesAt : List (ℕ × ReverseRecord) → ℕ → Type 0
RisesAt commits position =
    IfSome (slice_get commits position)
    (λ commit. IsStrictlySortedBy nat_cmp (keys_of commit.1.entries))

-- the row at a place, or an empty one past the end
abbrev pub row_at : List (List (ℕ × List ℕ)) → ℕ → List (ℕ × List ℕ)
row_at rows place = slice_index_or rows place []

-- the rows after bytes are appended at a number to the row at a place
abbrev pub appended_at : List (List (ℕ × List ℕ)) → ℕ → ℕ → List ℕ → List (List (ℕ × List ℕ))
appended_at rows place number bytes =
    slice_set rows place (row_at rows place ++ (number, bytes) ∷ [])

-- the numbers of a row strictly ascend
pub record IsRow (n : ℕ) (row : List (ℕ × List ℕ)) : Type 0 where
  pub width : IsWidth n
  pub rise : RiseInNumber row

-- each of some distinct chunks has a row, and no row is empty
pub record AreRows (n : ℕ) (chunks : List ℕ) (rows : List (List (ℕ × List ℕ))) : Type 0 where
  pub width : IsWidth n
  pub sizes : length rows ≡ length chunks
  pub apart : AreApart chunks
  pub filled : All (λ row. 0 < length row) rows
