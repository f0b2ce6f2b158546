-- Searches and counts: what they find in the list of the retained positions whose bit is set, or is not set. A chunk has n bytes.
use Rattle.std.specs.Prelude.{◌≡◌, ℕ, ◌-◌, ◌<◌, ◌≤◌, Bool, not, List, length, Option}
use Rattle.std.specs.List.{slice_get}
use Rattle.bitmap_core.specs.Meaning.{Meaning, IsRetained, ones, zeros}

-- the first of some positions, if there is one
abbrev pub first : List ℕ → Option ℕ
first positions = slice_get positions 0

-- the last of some positions, if there is one
abbrev pub last : List ℕ → Option ℕ
last positions = slice_get positions (length positions - 1)

-- the least retained position at or above `from` whose bit is set, if there is one
abbrev pub next_one : ℕ → Meaning → ℕ → Option ℕ
next_one n m from = first (ones n m from m.len)

-- the least retained position at or above `from` whose bit is not set, if there is one
abbrev pub next_zero : ℕ → Meaning → ℕ → Option ℕ
next_zero n m from = first (zeros n m from m.len)

-- the greatest retained position below `end` whose bit is set, if there is one
abbrev pub prev_one : ℕ → Meaning → ℕ → Option ℕ
prev_one n m end = last (ones n m 0 end)

-- the greatest retained position below `end` whose bit is not set, if there is one
abbrev pub prev_zero : ℕ → Meaning → ℕ → Option ℕ
prev_zero n m end = last (zeros n m 0 end)

-- the number of retained positions from a up to b, b excluded, whose bit is set
abbrev pub ones_count : ℕ → Meaning → ℕ → ℕ → ℕ
ones_count n m a b = length (ones n m a b)

-- the retained position whose bit is set and that has k such positions below it, if there is one
abbrev pub select_one : ℕ → Meaning → ℕ → Option ℕ
select_one n m k = slice_get (ones n m 0 m.len) k

-- p is the least retained position at or above `from` whose bit is `value`
pub record IsNext (n : ℕ) (m : Meaning) (value : Bool) (from p : ℕ) : Type 0 where
  pub retained : IsRetained n m p
  pub above : from ≤ p
  pub bit : m.bit p ≡ value
  pub least : (k : ℕ) → IsRetained n m k → from ≤ k → k < p → m.bit k ≡ not value

-- no retained position at or above `from` has `value` as its bit
abbrev pub HasNoNext : ℕ → Meaning → Bool → ℕ → Type 0
HasNoNext n m value from = (k : ℕ) → IsRetained n m k → from ≤ k → m.bit k ≡ not value

-- p is the greatest retained position below `end` whose bit is `value`
pub record IsPrevious (n : ℕ) (m : Meaning) (value : Bool) (end p : ℕ) : Type 0 where
  pub retained : IsRetained n m p
  pub below : p < end
  pub bit : m.bit p ≡ value
  pub greatest : (k : ℕ) → IsRetained n m k → k < end → p < k → m.bit k ≡ not value

-- no retained position below `end` has `value` as its bit
abbrev pub HasNoPrevious : ℕ → Meaning → Bool → ℕ → Type 0
HasNoPrevious n m value end = (k : ℕ) → IsRetained n m k → k < end → m.bit k ≡ not value
