-- Keys in ascending order.
use Rattle.std.specs.Prelude.{◌≡◌, ℕ, ◌/◌, ◌<◌, ◌++◌, List, true, nat_eq}
use Rattle.std.specs.List.Sorted.{IsStrictlySortedBy}
use Rattle.std.specs.Ordering.{nat_cmp}
use Rattle.std.specs.Set.{is_member}
use Rattle.chunk_map.specs.declared.trie.Node.{Node}
use Rattle.chunk_map.specs.Trie.{Finds, digit_in, node_at}

-- a link leads to a key
abbrev pub LeadsTo : List Node → List ℕ → ℕ → ℕ → Type 0
LeadsTo nodes keys link key = (place : ℕ) × Finds nodes keys key place link

-- the link of a node leads to a key whose digit in the node is below another
abbrev pub LeadsBelow : List Node → List ℕ → ℕ → ℕ → ℕ → Type 0
LeadsBelow nodes keys link digit key = LeadsTo nodes keys link key
    × (digit_in (node_at nodes (link / 2)) key < digit)

-- all numbers of which P holds are appended to a list, and no others, ascending
pub record AppendsAscending (P : ℕ → Type 0) (old new : List ℕ) : Type 0 where
  pub more : List ℕ
  pub appended : new ≡ old ++ more
  pub sorted : IsStrictlySortedBy nat_cmp more
  pub all : (key : ℕ) → P key → is_member nat_eq more key ≡ true
  pub only : (key : ℕ) → is_member nat_eq more key ≡ true → P key

-- all keys that a link leads to are appended to a list, and no others, ascending
abbrev pub AppendsKeys : List Node → List ℕ → ℕ → List ℕ → List ℕ → Type 0
AppendsKeys nodes keys link old new = AppendsAscending (LeadsTo nodes keys link) old new

-- the numbers of a list, ascending
pub record IsAscendingOf (keys ascending : List ℕ) : Type 0 where
  pub sorted : IsStrictlySortedBy nat_cmp ascending
  pub members : (key : ℕ) → is_member nat_eq ascending key ≡ is_member nat_eq keys key
