-- Two states compared by the records, or by the pending edits, that lie between them. A chunk has n bytes.
use Rattle.std.specs.Prelude.{◌≡◌, ℕ, ◌+◌, ◌*◌, ◌^◌, ◌<◌, ◌≤◌, false, List, [], ◌∷◌, Option, None, MatchOption, nat_eq}
use Rattle.std.specs.List.{flat_map}
use Rattle.std.specs.Map.{keys_of}
use Rattle.std.specs.Set.{is_member}
use Rattle.bitmap_bytes.specs.Chunk.{IsWidth}
use Rattle.bitmap_core.specs.PrunedBits.{PrunedBits, bit_len}
use Rattle.historical_bitmap.specs.Changes.{changed_from, differs}
use Rattle.historical_bitmap.specs.History.{EntriesRise, first_kept, past_number, RiseInNumber, up_to_number}
use Rattle.historical_bitmap.specs.Pending.{PendingEdits, PendingFits}
use Rattle.historical_bitmap.specs.Record.{ReverseRecord}

-- the entries of a history whose number is past one number and at most another
abbrev pub between_numbers : {X : Type 0} → ℕ → ℕ → List (ℕ × X) → List (ℕ × X)
between_numbers from to history = up_to_number to (past_number from history)

-- the chunks that some records have entries for
abbrev pub named_chunks : List (ℕ × ReverseRecord) → List ℕ
named_chunks commits = flat_map (λ commit. keys_of commit.1.entries) commits

-- two states, and a number of chunks up to which they are compared
pub record Compared : Type 0 where
  pub old : PrunedBits
  pub new : PrunedBits
  pub end : ℕ

-- two states can be compared: positions in chunks before `end` fit 64 bits, and each chunk that differs has an entry in a record between the two numbers, with its old bytes if the old state has all of its bits
pub record IsComparing (n from to : ℕ) (commits : List (ℕ × ReverseRecord)) (old new : PrunedBits)
    (end : ℕ) : Type 0 where
  pub width : IsWidth n
  pub order : from ≤ to
  pub numbers : RiseInNumber commits
  pub rise : EntriesRise (between_numbers from to commits)
  pub unnamed : (i : ℕ) → is_member nat_eq (named_chunks (between_numbers from to commits)) i
      ≡ false → differs n old new i ≡ false
  pub unkept : (i : ℕ) → 8 * n * (i + 1) ≤ bit_len n old
      → first_kept (between_numbers from to commits) i ≡ None → differs n old new i ≡ false
  pub small : (i : ℕ) → i < end → 8 * n * i < 2 ^ 64

-- the current and the pending bitmap can be compared from index `next` on, which is at least the current pruned count
pub record IsComparingPending (n : ℕ) (b : PrunedBits) (l : PendingEdits)
    (next end : ℕ) : Type 0 where
  pub width : IsWidth n
  pub edits_fit : PendingFits n b l
  pub low : b.pruned ≤ next
  pub small : (i : ℕ) → i < end → 8 * n * i < 2 ^ 64

-- no chunk from `first` on and before the next one differs, and without a next one none differs from `first` on
abbrev pub PassesEqual : ℕ → PrunedBits → PrunedBits → ℕ → Option ℕ → Type 0
PassesEqual n old new first next = MatchOption next
    ((i : ℕ) → first ≤ i → differs n old new i ≡ false)
    (λ chunk. (first ≤ chunk) × ((i : ℕ) → first ≤ i → i < chunk → differs n old new i ≡ false))

-- the first chunk that differs, among those from `first` up to, but not including, `end`, if there is one
abbrev pub IsNextChange : ℕ → PrunedBits → PrunedBits → ℕ → ℕ → Option ℕ → Type 0
IsNextChange n old new first end next = MatchOption next
    (changed_from n old new first end ≡ [])
    (λ i. (i < end) × (changed_from n old new first end ≡ i ∷ changed_from n old new (i + 1) end))
