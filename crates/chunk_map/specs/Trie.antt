-- The trie that finds the place of a key: nodes in a list, and links by the digits of the key.
use Rattle.std.specs.Prelude.{◌≡◌, ◌≢◌, ℕ, zero, suc, ◌+◌, ◌-◌, ◌*◌, ◌/◌, ◌%◌, ◌^◌, ◌<◌, ◌≤◌, List, [], ◌∷◌, length, slice_index, slice_index_or, slice_set, ◌++◌, ◌⊎◌, replicate, take}
use Rattle.std.specs.Int.{bit_at, bit_not, w32}
use Rattle.std.specs.Int.Bits.{bit_and, bit_or}
use Rattle.chunk_map.specs.declared.trie.Node.{Node}

-- a key is at a place
pub record IsAt (keys : List ℕ) (key place : ℕ) : Type 0 where
  pub within : place < length keys
  pub is : slice_index keys place ≡ key

-- a key is at no place
abbrev pub IsAbsent : List ℕ → ℕ → Type 0
IsAbsent keys key = (place : ℕ) → place < length keys → slice_index keys place ≢ key

-- no key is at two places
abbrev pub AreApart : List ℕ → Type 0
AreApart keys = (p q : ℕ) → p < length keys → q < length keys
    → slice_index keys p ≡ slice_index keys q → p ≡ q

-- node c, or an empty one past the end
abbrev pub node_at : List Node → ℕ → Node
node_at nodes c = slice_index_or nodes c (record { links = []; base = 0; shift = 0; used = 0 })

-- the digit by which a node sorts a key
abbrev pub digit_in : Node → ℕ → ℕ
digit_in node key = key / 2 ^ node.shift % 16

-- the link of a node for a key
abbrev pub link_for : Node → ℕ → ℕ
link_for node key = slice_index node.links (digit_in node key)

-- a key has the digits above those of the node that all keys below it have
abbrev pub Holds : Node → ℕ → Type 0
Holds node key = key / 2 ^ node.shift / 16 ≡ node.base / 2 ^ node.shift / 16

-- a link is that of a node
pub record IsNode (nodes : List Node) (link : ℕ) : Type 0 where
  pub odd : link % 2 ≡ 1
  pub within : link / 2 < length nodes

-- from a link, a number of nodes leads to a key at a place
abbrev pub Leads : List Node → List ℕ → ℕ → ℕ → ℕ → ℕ → Type 0
Leads nodes keys key place zero link = IsAt keys key place × (link ≡ 2 * place + 2)
Leads nodes keys key place (suc steps) link = IsNode nodes link
    × Holds (node_at nodes (link / 2)) key
    × Leads nodes keys key place steps (link_for (node_at nodes (link / 2)) key)

-- some number of nodes leads from a link to a key at a place
abbrev pub Finds : List Node → List ℕ → ℕ → ℕ → ℕ → Type 0
Finds nodes keys key place link = (steps : ℕ) × Leads nodes keys key place steps link

-- from a link, a number of nodes leads to another link, for a key
abbrev pub Reaches : List Node → ℕ → ℕ → ℕ → ℕ → Type 0
Reaches nodes key target zero link = link ≡ target
Reaches nodes key target (suc steps) link = IsNode nodes link × Holds (node_at nodes (link / 2)) key
    × Reaches nodes key target steps (link_for (node_at nodes (link / 2)) key)

-- some number of nodes leads from a link to another link, for a key
abbrev pub Meets : List Node → ℕ → ℕ → ℕ → Type 0
Meets nodes key target link = (steps : ℕ) × Reaches nodes key target steps link

-- the walk for a key from the root is at a link, which is in the node of the link `owner`, or is the root if that is 0
abbrev pub IsWay : List Node → ℕ → ℕ → ℕ → ℕ → Type 0
IsWay nodes root key zero link = link ≡ root
IsWay nodes root key (suc owner) link = IsNode nodes (suc owner)
    × Holds (node_at nodes (suc owner / 2)) key
    × (link ≡ link_for (node_at nodes (suc owner / 2)) key) × Meets nodes key (suc owner) root

-- the walk for a key from the root ends at a link, which is not that of a node that holds the key
pub record IsEnd (nodes : List Node) (root key owner link : ℕ) : Type 0 where
  pub within : link % 2 ≡ 1 → link / 2 < length nodes
  pub stops : link % 2 ≡ 1 → Holds (node_at nodes (link / 2)) key → ⊥
  pub way : IsWay nodes root key owner link

-- one more than the shift of the node of a link, or 0 if it has none
abbrev pub height_of : List Node → ℕ → ℕ → ℕ
height_of nodes link zero = 0
height_of nodes link (suc odd) = (node_at nodes (link / 2)).shift + 1

-- a shift is that of a digit
pub record IsShift (shift : ℕ) : Type 0 where
  pub most : shift ≤ 60
  pub digit : shift % 4 ≡ 0

-- 1 for a link, or 0 for none
abbrev pub mark_of : ℕ → ℕ
mark_of zero = 0
mark_of (suc link) = 1

-- the bit of each digit says whether there is a link for it
abbrev pub AreMarked : List ℕ → ℕ → Type 0
AreMarked links used = (digit : ℕ) → digit < 16
    → bit_at used digit ≡ mark_of (slice_index links digit)

-- the bits of the digits, after the link for a digit was replaced
abbrev pub marked : ℕ → ℕ → ℕ → ℕ
marked used digit zero = bit_and used (bit_not w32 (1 * 2 ^ digit % 2 ^ 32))
marked used digit (suc link) = bit_or used (1 * 2 ^ digit % 2 ^ 32)

-- the links of a node to nodes go down, and its bits are right
pub record IsLower (nodes : List Node) (node : Node) : Type 0 where
  pub size : length node.links ≡ 16
  pub shift : IsShift node.shift
  pub within : (digit : ℕ) → digit < 16 → slice_index node.links digit % 2 ≡ 1
      → slice_index node.links digit / 2 < length nodes
  pub lower : (digit : ℕ) → digit < 16 → slice_index node.links digit % 2 ≡ 1
      → (node_at nodes (slice_index node.links digit / 2)).shift < node.shift
  pub used : AreMarked node.links node.used

-- all links between nodes go down
abbrev pub IsForest : List Node → Type 0
IsForest nodes = (c : ℕ) → c < length nodes → IsLower nodes (node_at nodes c)

-- a link of a node for a digit leads to keys with that digit
pub record IsSlot (nodes : List Node) (keys : List ℕ) (node : Node) (digit link : ℕ) : Type 0 where
  pub place : link % 2 ≡ 0 → link / 2 ≤ length keys
  pub below_node : link % 2 ≡ 1
      → (node_at nodes (link / 2)).base / 2 ^ node.shift
      ≡ node.base / 2 ^ node.shift / 16 * 16 + digit
  pub below_key : link % 2 ≡ 0 → 0 < link
      → slice_index keys (link / 2 - 1) / 2 ^ node.shift
      ≡ node.base / 2 ^ node.shift / 16 * 16 + digit

-- the links of a node are right
abbrev pub AreSlots : List Node → List ℕ → Node → Type 0
AreSlots nodes keys node = (digit : ℕ) → digit < 16
    → IsSlot nodes keys node digit (slice_index node.links digit)

-- the root is right
pub record IsRoot (nodes : List Node) (keys : List ℕ) (root : ℕ) : Type 0 where
  pub node : root % 2 ≡ 1 → root / 2 < length nodes
  pub place : root % 2 ≡ 0 → root / 2 ≤ length keys

-- the links are right, and lead to each key and each node
pub record IsTrie (nodes : List Node) (keys : List ℕ) (root : ℕ) : Type 0 where
  pub forest : IsForest nodes
  pub first : IsRoot nodes keys root
  pub slots : (c : ℕ) → c < length nodes → AreSlots nodes keys (node_at nodes c)
  pub reached : (c : ℕ) → c < length nodes → Meets nodes (node_at nodes c).base (2 * c + 1) root
  pub found : (place : ℕ) → place < length keys
      → Finds nodes keys (slice_index keys place) place root

-- the links are right, and lead to each node and each key but that at one place, to which none leads
pub record IsPartial (nodes : List Node) (keys : List ℕ) (root gone : ℕ) : Type 0 where
  pub forest : IsForest nodes
  pub first : IsRoot nodes keys root
  pub slots : (c : ℕ) → c < length nodes → AreSlots nodes keys (node_at nodes c)
  pub reached : (c : ℕ) → c < length nodes → Meets nodes (node_at nodes c).base (2 * c + 1) root
  pub found : (place : ℕ) → place < length keys → place ≢ gone
      → Finds nodes keys (slice_index keys place) place root
  pub free : (c digit : ℕ) → c < length nodes → digit < 16
      → slice_index (node_at nodes c).links digit ≢ 2 * gone + 2
  pub free_root : root ≢ 2 * gone + 2

-- a list without the element at a place, to which the last one is moved
abbrev pub without_place : {X : Type 0} → List X → ℕ → X → List X
without_place xs place d =
    take (length xs - 1) (slice_set xs place (slice_index_or xs (length xs - 1) d))

-- a node with another link for a key
abbrev pub linked : Node → ℕ → ℕ → Node
linked node key link = record node {
  links = slice_set node.links (digit_in node key) link;
  used = marked node.used (digit_in node key) link;
}

-- the nodes with another link for a key in the node of the link `owner`, if that is not 0
abbrev pub relinked : List Node → ℕ → ℕ → ℕ → List Node
relinked nodes zero key link = nodes
relinked nodes (suc owner) key link =
    slice_set nodes (suc owner / 2) (linked (node_at nodes (suc owner / 2)) key link)

-- the root after that
abbrev pub new_root : ℕ → ℕ → ℕ → ℕ
new_root root zero link = link
new_root root (suc owner) link = root

-- a node for two keys or more: those below `link`, of which one is `base`, and a new key
abbrev pub branch_of : ℕ → ℕ → ℕ → ℕ → ℕ → Node
branch_of base link key leaf shift =
    record {
      links = slice_set (slice_set (replicate 16 0) (base / 2 ^ shift % 16) link)
          (key / 2 ^ shift % 16) leaf;
      base = key;
      shift = shift;
      used = marked (marked 0 (base / 2 ^ shift % 16) link) (key / 2 ^ shift % 16) leaf;
    }

-- the highest digit by which two keys differ is that at a shift
pub record Parts (a b shift : ℕ) : Type 0 where
  pub shift_fits : IsShift shift
  pub apart : a / 2 ^ shift ≢ b / 2 ^ shift
  pub joined : a / 2 ^ shift / 16 ≡ b / 2 ^ shift / 16

-- the base of a link: the key at its place, or one below its node
abbrev pub base_of : List Node → List ℕ → ℕ → ℕ → ℕ
base_of nodes keys link zero = slice_index keys (link / 2 - 1)
base_of nodes keys link (suc odd) = (node_at nodes (link / 2)).base

-- the shift from which all keys below a link are equal
abbrev pub top_of : List Node → ℕ → ℕ → ℕ
top_of nodes link zero = 0
top_of nodes link (suc odd) = (node_at nodes (link / 2)).shift + 4

-- a new link replaces one that is not 0: that of a new node, in which that link and the one of a new key are
pub record Branches (old new : List Node) (keys : List ℕ) (link key leaf : ℕ) : Type 0 where
  pub shift : ℕ
  pub from : top_of old link (link % 2) ≤ shift
  pub parts : Parts (base_of old keys link (link % 2)) key shift
  pub pushed : new ≡ old ++ branch_of (base_of old keys link (link % 2)) link key leaf shift ∷ []

-- a link for a digit in a node, after the link for a key in the node of the link `owner` was replaced
abbrev pub LinkAfter : List Node → List Node → ℕ → ℕ → ℕ → ℕ → ℕ → Type 0
LinkAfter old new owner key link c digit =
    ((2 * c + 1 ≡ owner) × (digit ≡ digit_in (node_at old c) key)
    × (slice_index (node_at new c).links digit ≡ link))
    ⊎ ((2 * c + 1 ≡ owner → digit ≡ digit_in (node_at old c) key → ⊥)
    × (slice_index (node_at new c).links digit ≡ slice_index (node_at old c).links digit))

-- the new nodes are the old ones, with another link for a key in the node of the link `owner`, and maybe more nodes
pub record Relinks (old new : List Node) (owner key link : ℕ) : Type 0 where
  pub longer : length old ≤ length new
  pub base : (c : ℕ) → c < length old → (node_at new c).base ≡ (node_at old c).base
  pub shift : (c : ℕ) → c < length old → (node_at new c).shift ≡ (node_at old c).shift
  pub size : (c : ℕ) → c < length old → length (node_at new c).links ≡ 16
  pub used : (c : ℕ) → c < length old → AreMarked (node_at new c).links (node_at new c).used
  pub links : (c digit : ℕ) → c < length old → digit < 16 → LinkAfter old new owner key link c digit

-- the old keys are at their places
abbrev pub KeepsKeys : List ℕ → List ℕ → Type 0
KeepsKeys old new = (place : ℕ) → place < length old → IsAt new (slice_index old place) place

-- a new key, and the nodes and keys before and after: `new_link` replaces `link`, which is in the node of the link `owner`, or is the root if that is 0
pub record Grows (old new : List Node) (keys new_keys : List ℕ)
    (owner key link new_link : ℕ) : Type 0 where
  pub relinks : Relinks old new owner key new_link
  pub kept : KeepsKeys keys new_keys
  pub added : (place : ℕ) → place < length new_keys
      → (place < length keys) ⊎ ((place ≡ length keys) × (slice_index new_keys place ≡ key))
  pub lower : (c : ℕ) → length old ≤ c → c < length new → IsLower new (node_at new c)
  pub slots : (c : ℕ) → length old ≤ c → c < length new → AreSlots new new_keys (node_at new c)
  pub reached : (c : ℕ) → length old ≤ c → c < length new
      → ((node_at new c).base ≡ key) × (2 * c + 1 ≡ new_link)
  pub node : new_link % 2 ≡ 1 → new_link / 2 < length new
  pub place : new_link % 2 ≡ 0 → new_link / 2 ≤ length new_keys
  pub below : (c : ℕ) → c < length old → 2 * c + 1 ≡ owner → new_link % 2 ≡ 1
      → (node_at new (new_link / 2)).shift < (node_at old c).shift
  pub slot : (c : ℕ) → c < length old → 2 * c + 1 ≡ owner
      → IsSlot new new_keys (node_at old c) (digit_in (node_at old c) key) new_link
  pub turns : (other place steps : ℕ) → Leads old keys other place steps link
      → Finds new new_keys other place link → Finds new new_keys other place new_link
  pub passes : (c steps : ℕ) → c < length old
      → Reaches old (node_at old c).base (2 * c + 1) steps link
      → Meets new (node_at old c).base (2 * c + 1) link
      → Meets new (node_at old c).base (2 * c + 1) new_link
  pub finds : Finds new new_keys key (length keys) new_link
