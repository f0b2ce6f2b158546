-- The least key at or above a number.
use Rattle.std.specs.Prelude.{◌≡◌, ◌≢◌, ℕ, ◌+◌, ◌-◌, ◌*◌, ◌/◌, ◌%◌, ◌^◌, ◌<◌, ◌≤◌, List, length, slice_index, ◌⊎◌}
use Rattle.chunk_map.specs.declared.next.Step.{Step}
use Rattle.chunk_map.specs.declared.next.Step.TheVariants.{Found, Skip, End}
use Rattle.chunk_map.specs.declared.trie.Node.{Node}
use Rattle.chunk_map.specs.Trie.{Finds, Holds, IsShift, link_for, node_at}

-- the shift of a slot, or 64 for the root
abbrev pub IsSpan : ℕ → Type 0
IsSpan span = IsShift span ⊎ (span ≡ 64)

-- all keys at or above a number are at or above another
abbrev pub AreFrom : List ℕ → ℕ → ℕ → Type 0
AreFrom keys from past = (place : ℕ) → place < length keys → from ≤ slice_index keys place
    → past ≤ slice_index keys place

-- the key at a place is the least at or above a number
pub record IsNextPlace (keys : List ℕ) (from place : ℕ) : Type 0 where
  pub within : place < length keys
  pub from_on : from ≤ slice_index keys place
  pub least : AreFrom keys from (slice_index keys place)

-- all keys are below a number
abbrev pub AreBelow : List ℕ → ℕ → Type 0
AreBelow keys from = (place : ℕ) → place < length keys → slice_index keys place < from

-- what a step reports of the keys at or above a number holds
abbrev pub StepReports : List ℕ → ℕ → Step → Type 0
StepReports keys from (Found place) = IsNextPlace keys from place
StepReports keys from (Skip past) = (from < past) × AreFrom keys from past
StepReports keys from End = AreBelow keys from

-- a step reports the first number past those that have the digits of another from a shift on
abbrev pub IsPast : ℕ → ℕ → Step → Type 0
IsPast at span (Found place) = ⊥
IsPast at span (Skip past) = past ≡ (at / 2 ^ span + 1) * 2 ^ span
IsPast at span End = 2 ^ 64 ≤ (at / 2 ^ span + 1) * 2 ^ span

-- a node has no link for a key at or above a number
abbrev pub IsNoneIn : Node → ℕ → Type 0
IsNoneIn node at = (key : ℕ) → at ≤ key → Holds node key → link_for node key ≡ 0

-- a number that a node can hold is at or above another, and the node has no link for the numbers between them
pub record IsFirstIn (node : Node) (at first : ℕ) : Type 0 where
  pub fits : first < 2 ^ 64
  pub from_on : at ≤ first
  pub holds : Holds node first
  pub least : (key : ℕ) → at ≤ key → Holds node key → link_for node key ≢ 0 → first ≤ key

-- what holds of a walk at a link of a slot
pub record IsWalk (nodes : List Node) (keys : List ℕ) (from at span link : ℕ) : Type 0 where
  pub span_fits : IsSpan span
  pub at_fits : at < 2 ^ 64
  pub from_on : from ≤ at
  pub all : AreFrom keys from at
  pub below : (place : ℕ) → place < length keys → slice_index keys place / 2 ^ span ≡ at / 2 ^ span
      → Finds nodes keys (slice_index keys place) place link
  pub node : link % 2 ≡ 1 → link / 2 < length nodes
  pub place : link % 2 ≡ 0 → link / 2 ≤ length keys
  pub lower : link % 2 ≡ 1 → (node_at nodes (link / 2)).shift < span
  pub node_in : link % 2 ≡ 1 → span ≤ 60
      → (node_at nodes (link / 2)).base / 2 ^ span ≡ at / 2 ^ span
  pub key_in : link % 2 ≡ 0 → 0 < link → slice_index keys (link / 2 - 1) / 2 ^ span ≡ at / 2 ^ span

-- all keys at or above a number are at or above another, from which a walk starts at a link of a slot
pub record IsStart (nodes : List Node) (keys : List ℕ) (from at span link : ℕ) : Type 0 where
  pub from_on : from ≤ at
  pub all : AreFrom keys from at
  pub walk : IsWalk nodes keys at at span link
