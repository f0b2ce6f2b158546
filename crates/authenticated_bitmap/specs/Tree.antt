-- The Merkle tree of RFC 9162, section 2.1, over any hash H of lists of bytes. It is defined over the digests of the leaves.
use Rattle.std.specs.Prelude.{◌≡◌, ◌≢◌, ℕ, zero, suc, ◌-◌, ◌^◌, ◌<◌, ◌≤◌, List, [], ◌∷◌, ◌++◌, length, take, drop, map, reverse, nat_le, nat_lt, if◌then◌else◌, Option, Some, None, All, Contains, slice_index_or, ◌*◌, ◌⊎◌}
use Rattle.std.specs.Option.{option_map}

-- what is hashed for a leaf: the byte 0 and the leaf
abbrev pub leaf_input : List ℕ → List ℕ
leaf_input leaf = 0 ∷ leaf

-- what is hashed for a node: the byte 1 and the digests of its two children
abbrev pub node_input : List ℕ → List ℕ → List ℕ
node_input left right = 1 ∷ left ++ right

-- the digest of a leaf
abbrev pub leaf_hash : (List ℕ → List ℕ) → List ℕ → List ℕ
leaf_hash H leaf = H (leaf_input leaf)

-- the digest of a node, from the digests of its two children
abbrev pub node_hash : (List ℕ → List ℕ) → List ℕ → List ℕ → List ℕ
node_hash H left right = H (node_input left right)

-- the digest of the tree of at most 2 ^ height leaves, from their digests; it is split at 2 ^ k for the largest k at which both parts have a leaf
unfoldable pub subtree_hash : (List ℕ → List ℕ) → ℕ → List (List ℕ) → List ℕ
subtree_hash H zero [] = H []
subtree_hash H zero (digest ∷ digests) = digest
subtree_hash H (suc k) digests =
    if nat_le (length digests) (2 ^ k) then subtree_hash H k digests
    else node_hash H (subtree_hash H k (take (2 ^ k) digests))
    (subtree_hash H k (drop (2 ^ k) digests))

-- the digest of the tree of all leaves, from their digests
abbrev pub tree_hash : (List ℕ → List ℕ) → List (List ℕ) → List ℕ
tree_hash H digests = subtree_hash H (length digests) digests

-- the digests of leaves
abbrev pub leaf_hashes : (List ℕ → List ℕ) → List (List ℕ) → List (List ℕ)
leaf_hashes H leaves = map (leaf_hash H) leaves

-- the digests beside the way from the root to leaf i, in that order
unfoldable pub siblings : (List ℕ → List ℕ) → ℕ → ℕ → List (List ℕ) → List (List ℕ)
siblings H zero i digests = []
siblings H (suc k) i digests =
    if nat_le (length digests) (2 ^ k) then siblings H k i digests
    else (if nat_lt i (2 ^ k)
    then subtree_hash H k (drop (2 ^ k) digests) ∷ siblings H k i (take (2 ^ k) digests)
    else subtree_hash H k (take (2 ^ k) digests) ∷ siblings H k (i - 2 ^ k) (drop (2 ^ k) digests))

-- the audit path of leaf i: the same digests, from the leaf up
abbrev pub audit_path : (List ℕ → List ℕ) → ℕ → List (List ℕ) → List (List ℕ)
audit_path H i digests = reverse (siblings H (length digests) i digests)

-- the digest of a tree of n leaves, at most 2 ^ height, from the digest of leaf i and those beside its way, root first; None unless these are as many as the way is long
unfoldable pub climbed : (List ℕ → List ℕ) → ℕ → ℕ → ℕ → List ℕ → List (List ℕ) → Option (List ℕ)
climbed H zero i n digest [] = Some digest
climbed H zero i n digest (beside ∷ path) = None
climbed H (suc k) i n digest [] = if nat_le n (2 ^ k) then climbed H k i n digest [] else None
climbed H (suc k) i n digest (beside ∷ path) =
    if nat_le n (2 ^ k) then climbed H k i n digest (beside ∷ path)
    else (if nat_lt i (2 ^ k)
    then option_map (λ left. node_hash H left beside) (climbed H k i (2 ^ k) digest path)
    else option_map (λ right. node_hash H beside right)
    (climbed H k (i - 2 ^ k) (n - 2 ^ k) digest path))

-- the digest of a tree of n leaves, from the digest of leaf i and its audit path
abbrev pub root_from_path : (List ℕ → List ℕ) → ℕ → ℕ → List ℕ → List (List ℕ) → Option (List ℕ)
root_from_path H i n digest path = climbed H n i n digest (reverse path)

-- a list of bytes
abbrev pub AreBytes : List ℕ → Type 0
AreBytes xs = All (λ x. x < 256) xs

-- 32 bytes
pub record IsDigest (digest : List ℕ) : Type 0 where
  pub size : length digest ≡ 32
  pub bytes : AreBytes digest

-- what the function gives are digests
abbrev pub IsHash : (List ℕ → List ℕ) → Type 0
IsHash H = (xs : List ℕ) → IsDigest (H xs)

-- the input that is hashed above a digest, if there is one, and those that were hashed below it
abbrev pub and_above : (List ℕ → List ℕ) → Option (List ℕ) → List (List ℕ) → List (List ℕ)
and_above input None below = below
and_above input (Some digest) below = input digest ∷ below

-- what `climbed` hashes: one input for each node of the way
unfoldable pub hashed : (List ℕ → List ℕ) → ℕ → ℕ → ℕ → List ℕ → List (List ℕ) → List (List ℕ)
hashed H zero i n digest path = []
hashed H (suc k) i n digest [] = if nat_le n (2 ^ k) then hashed H k i n digest [] else []
hashed H (suc k) i n digest (beside ∷ path) =
    if nat_le n (2 ^ k) then hashed H k i n digest (beside ∷ path)
    else (if nat_lt i (2 ^ k)
    then and_above (λ left. node_input left beside) (climbed H k i (2 ^ k) digest path)
    (hashed H k i (2 ^ k) digest path)
    else and_above (λ right. node_input beside right)
    (climbed H k (i - 2 ^ k) (n - 2 ^ k) digest path)
    (hashed H k (i - 2 ^ k) (n - 2 ^ k) digest path))

-- what is hashed to recompute a tree from a leaf and its path: the leaf, and each node of the way
abbrev pub path_inputs : (List ℕ → List ℕ) → ℕ → ℕ → List ℕ → List (List ℕ) → List (List ℕ)
path_inputs H i n leaf path = leaf_input leaf ∷ hashed H n i n (leaf_hash H leaf) (reverse path)

-- what `subtree_hash` hashes: one input for each node
unfoldable pub subtree_inputs : (List ℕ → List ℕ) → ℕ → List (List ℕ) → List (List ℕ)
subtree_inputs H zero [] = [] ∷ []
subtree_inputs H zero (digest ∷ digests) = []
subtree_inputs H (suc k) digests =
    if nat_le (length digests) (2 ^ k) then subtree_inputs H k digests
    else node_input (subtree_hash H k (take (2 ^ k) digests))
    (subtree_hash H k (drop (2 ^ k) digests))
    ∷ (subtree_inputs H k (take (2 ^ k) digests) ++ subtree_inputs H k (drop (2 ^ k) digests))

-- what is hashed for the nodes of the tree of all leaves
abbrev pub node_inputs : (List ℕ → List ℕ) → List (List ℕ) → List (List ℕ)
node_inputs H digests = subtree_inputs H (length digests) digests

-- what is hashed for the tree of leaves: each leaf, and each node
abbrev pub tree_inputs : (List ℕ → List ℕ) → List (List ℕ) → List (List ℕ)
tree_inputs H leaves = map leaf_input leaves ++ node_inputs H (leaf_hashes H leaves)

-- two different lists of bytes with one digest, of which the first was hashed in one computation and the second in another
pub record Collision (H : List ℕ → List ℕ) (here there : List (List ℕ)) : Type 0 where
  pub first : List ℕ
  pub second : List ℕ
  pub first_hashed : Contains here first
  pub second_hashed : Contains there second
  pub first_bytes : AreBytes first
  pub second_bytes : AreBytes second
  pub differ : first ≢ second
  pub same : H first ≡ H second

-- two different lists of bytes with one digest, whichever they are
pub record CollidesSomewhere (H : List ℕ → List ℕ) : Type 0 where
  pub first : List ℕ
  pub second : List ℕ
  pub first_bytes : AreBytes first
  pub second_bytes : AreBytes second
  pub differ : first ≢ second
  pub same : H first ≡ H second

-- any two leaves that lead to one digest, at one place of trees of one size, are equal, unless two inputs of their paths collide
abbrev pub BindsLeaves : (List ℕ → List ℕ) → Type 0
BindsLeaves H = (i n : ℕ) (a b : List ℕ) (p q : List (List ℕ)) (tree : List ℕ) → AreBytes a
    → AreBytes b → All AreBytes p → All AreBytes q
    → root_from_path H i n (leaf_hash H a) p ≡ Some tree
    → root_from_path H i n (leaf_hash H b) q ≡ Some tree
    → (a ≡ b) ⊎ Collision H (path_inputs H i n a p) (path_inputs H i n b q)

-- a leaf that leads to the digest of a tree is the tree's leaf at that place, unless an input of the path and one of the tree collide
abbrev pub BindsTrees : (List ℕ → List ℕ) → Type 0
BindsTrees H = (leaves : List (List ℕ)) (i : ℕ) (leaf : List ℕ) (path : List (List ℕ))
    → All AreBytes leaves → i < length leaves → AreBytes leaf → All AreBytes path
    → root_from_path H i (length leaves) (leaf_hash H leaf) path
    ≡ Some (tree_hash H (leaf_hashes H leaves))
    → (leaf ≡ slice_index_or leaves i [])
    ⊎ Collision H (path_inputs H i (length leaves) leaf path) (tree_inputs H leaves)

-- a leaf and a path lead to the digest of a tree of n leaves, as leaf i
abbrev pub LeadsToTree : (List ℕ → List ℕ) → List ℕ → ℕ → ℕ → List ℕ → List (List ℕ) → Type 0
LeadsToTree H tree n i leaf path = (i < n)
    × (root_from_path H i n (leaf_hash H leaf) path ≡ Some tree)

-- whichever tree of n leaves has this digest, a leaf is its leaf i, unless an input of the path and one of the tree collide
abbrev pub BindsLeaf : (List ℕ → List ℕ) → List ℕ → ℕ → ℕ → List ℕ → List (List ℕ) → Type 0
BindsLeaf H tree n i leaf path = (leaves : List (List ℕ)) → All AreBytes leaves → length leaves ≡ n
    → tree_hash H (leaf_hashes H leaves) ≡ tree
    → (leaf ≡ slice_index_or leaves i [])
    ⊎ Collision H (path_inputs H i n leaf path) (tree_inputs H leaves)

-- each digest of a leaf and its audit path lead to the digest of the tree
abbrev pub ShowsLeaves : (List ℕ → List ℕ) → Type 0
ShowsLeaves H = (digests : List (List ℕ)) (i : ℕ) → i < length digests
    → root_from_path H i (length digests) (slice_index_or digests i []) (audit_path H i digests)
    ≡ Some (tree_hash H digests)

-- the tree of leaves is that of RFC 9162: no leaf, one leaf, and else a split at the largest power of two below the number of leaves
pub record SplitsAtPower (H : List ℕ → List ℕ) : Type 0 where
  pub none : tree_hash H (leaf_hashes H []) ≡ H []
  pub one : (leaf : List ℕ) → tree_hash H (leaf_hashes H (leaf ∷ [])) ≡ leaf_hash H leaf
  pub more : (leaves : List (List ℕ)) (k : ℕ) → 2 ^ k < length leaves → length leaves ≤ 2 * 2 ^ k
      → tree_hash H (leaf_hashes H leaves)
      ≡ node_hash H (tree_hash H (leaf_hashes H (take (2 ^ k) leaves)))
      (tree_hash H (leaf_hashes H (drop (2 ^ k) leaves)))
