-- Pages: lists that are written to a buffer in parts.
use Rattle.std.specs.Prelude.{◌≡◌, ℕ, min, List, length, take, drop, Result, Ok, Err}
use Rattle.std.specs.Map.{keys_of}
use Rattle.std.specs.Option.{ok_or, option_map}
use Rattle.historical_bitmap.specs.Changes.{changed_between}
use Rattle.historical_bitmap.specs.History.{at_least}
use Rattle.bitmap_core.specs.Meaning.{Meaning, ones}
use Rattle.bitmap_session.specs.Machine.{Machine}
use Rattle.bitmap_c.specs.Reads.{outside_batch, status_of}

-- a page of a list: the buffer begins with as many items as fit, or with all if there are fewer; the rest is unchanged
pub record IsPage (all : List ℕ) (count : ℕ) (old new : List ℕ) : Type 0 where
  pub counted : count ≡ min (length old) (length all)
  pub items : take count new ≡ take count all
  pub rest : drop count new ≡ drop count old

-- a page of the list that is read; if there is none, the count and the buffer are unchanged
abbrev pub IsPageOf : Result (List ℕ) ℕ → ℕ → ℕ → List ℕ → List ℕ → Type 0
IsPageOf (Ok all) count new_count old new = IsPage all new_count old new
IsPageOf (Err status) count new_count old new = (new_count ≡ count) × (new ≡ old)

-- a call returns a page: its status is the read's, and its count and its buffer have a page of the list
pub record ReturnsPage (status count new_count : ℕ) (old new : List ℕ)
    (read : Result (List ℕ) ℕ) : Type 0 where
  pub status_is : status ≡ status_of read
  pub page_is : IsPageOf read count new_count old new

-- the set positions of a range
abbrev pub ones_read : ℕ → Meaning → ℕ → ℕ → Result (List ℕ) ℕ
ones_read N b from to = Ok (ones N b from to)

-- the kept commit numbers from one on
abbrev pub numbers_read : Machine → ℕ → Result (List ℕ) ℕ
numbers_read m from = outside_batch m (Ok (at_least from (keys_of m.state.history)))

-- the indices, from `first` on, of the chunks that differ between two commits, or status 12 if there are no such commits
abbrev pub changes_read : ℕ → Machine → ℕ → ℕ → ℕ → Result (List ℕ) ℕ
changes_read N m from to first =
    outside_batch m (ok_or (option_map (at_least first) (changed_between N m.state.history from to))
    12)
