-- A commit in two steps: it is prepared, which takes all its memory, and then finished or undone. A chunk has n bytes.
use Rattle.std.specs.Prelude.{◌≡◌, ℕ, ◌*◌, ◌^◌, ◌<◌, ◌≤◌, List, [], ◌∷◌, ◌++◌, drop, MatchOption, Option, None, nat_eq, true}
use Rattle.std.specs.List.{filter}
use Rattle.std.specs.Set.{is_member}
use Rattle.bitmap_bytes.specs.Chunk.{IsWidth}
use Rattle.bitmap_core.specs.PrunedBits.{PrunedBits, bit_len, extended, pruned_bits, truncated}
use Rattle.historical_bitmap.specs.Changes.{differs, listed}
use Rattle.historical_bitmap.specs.History.{AreKept, before_latest}
use Rattle.historical_bitmap.specs.Pending.{IsRecordOf, PendingEdits, PendingFits}
use Rattle.historical_bitmap.specs.Record.{ReverseRecord}
use Rattle.historical_bitmap.specs.View.{View, commit_error}

-- a batch, and the number of its commit
pub record PreparedView : Type 0 where
  pub batch : View PendingEdits
  pub number : ℕ

-- a commit is prepared: the bitmap is extended to the pending length, and the record of the pending edits is appended to the commits
pub record IsPrepared (n : ℕ) (b : PrunedBits) (commits : List (ℕ × ReverseRecord))
    (l : PendingEdits) (number : ℕ) (grown : PrunedBits)
    (more : List (ℕ × ReverseRecord)) : Type 0 where
  pub grown_is : grown ≡ extended n b l.len
  pub diff : ReverseRecord
  pub appended : more ≡ commits ++ (number, diff) ∷ []
  pub reverses : IsRecordOf n b l diff

-- a bitmap that had some length was extended to the length of pending edits, which fit it as it was
pub record IsExtended (n : ℕ) (grown : PrunedBits) (length : ℕ) (l : PendingEdits) : Type 0 where
  pub width : IsWidth n
  pub low : pruned_bits n grown ≤ length
  pub high : length ≤ bit_len n grown
  pub edits_fit : PendingFits n (truncated n grown length) l
  pub grown_is : grown ≡ extended n (truncated n grown length) l.len

-- the invariant of a prepared commit: the bitmap, its length before, the commits with the new one, the last number, the pending edits and the number
pub record CanFinish (n : ℕ) (grown : PrunedBits) (length : ℕ) (more : List (ℕ × ReverseRecord))
    (last : Option ℕ) (l : PendingEdits) (number : ℕ) : Type 0 where
  pub small : number < 2 ^ 64
  pub is_extended : IsExtended n grown length l
  pub accepted : commit_error last number ≡ None
  pub kept : AreKept n (truncated n grown length) (before_latest more) last
  pub prepared : IsPrepared n (truncated n grown length) (before_latest more) l number grown more

-- those of some chunks that differ and that the newer state retains, each with its newer bytes
abbrev pub changes_in : ℕ → PrunedBits → PrunedBits → List ℕ → List (ℕ × List ℕ)
changes_in n old new chunks = listed n new (filter (differs n old new) chunks)

-- no chunk of a list is pruned in a bitmap, and each begins below position 2 ^ 64
abbrev pub AreIndices : ℕ → PrunedBits → List ℕ → Type 0
AreIndices n b chunks = (i : ℕ) → is_member nat_eq chunks i ≡ true
    → (b.pruned ≤ i) × (8 * n * i < 2 ^ 64)

-- the first change among some chunks from one place on, with its newer bytes, if there is one; the other changes are those from a second place on
abbrev pub IsNextFrom : ℕ → PrunedBits → PrunedBits → List ℕ → ℕ → ℕ → Option (ℕ × List ℕ) → Type 0
IsNextFrom n old new chunks from after next = MatchOption next
    ((changes_in n old new (drop from chunks) ≡ [])
    × (changes_in n old new (drop after chunks) ≡ []))
    (λ found. changes_in n old new (drop from chunks)
    ≡ found ∷ changes_in n old new (drop after chunks))
