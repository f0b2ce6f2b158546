-- Ranges of consecutive chunks: the digests beside a range, the tree that a range and these digests lead to, and what is hashed on the way.
use Rattle.std.specs.Prelude.{◌≡◌, ℕ, zero, suc, ◌+◌, ◌-◌, ◌^◌, ◌<◌, ◌≤◌, min, List, [], ◌∷◌, ◌++◌, length, take, drop, map, nat_le, if◌then◌else◌, Option, Some, None, All, slice_index_or, ◌⊎◌}
use Rattle.std.specs.Option.{option_map, option_and_then}
use Rattle.authenticated_bitmap.specs.Tree.{leaf_input, leaf_hashes, node_input, node_hash, subtree_hash, tree_hash, and_above, AreBytes, IsDigest, Collision}
use Rattle.authenticated_bitmap.specs.Root.{Shape, Bitmap, IsBitmap, Fits, Has, chunk_count, chunk_digests, root_input, root_over, root_of, bitmap_inputs, shape_after_pruning, after_pruning}

-- the digests beside the count leaves from first on, from left to right: those of the largest parts of the tree that have none of these leaves. The tree has at most 2 ^ height leaves, and its parts are those of `subtree_hash`
unfoldable pub siblings_below : (List ℕ → List ℕ) → ℕ → ℕ → ℕ → List (List ℕ) → List (List ℕ)
siblings_below H zero first zero digests = subtree_hash H zero digests ∷ []
siblings_below H zero first (suc count) digests = []
siblings_below H (suc k) first zero digests = subtree_hash H (suc k) digests ∷ []
siblings_below H (suc k) first (suc count) digests =
    if nat_le (length digests) (2 ^ k) then siblings_below H k first (suc count) digests
    else siblings_below H k first (min (2 ^ k - first) (suc count)) (take (2 ^ k) digests)
    ++ siblings_below H k (first - 2 ^ k) (suc count - (2 ^ k - first)) (drop (2 ^ k) digests)

-- the digests beside the count leaves from first on, in the tree of all leaves
abbrev pub range_siblings : (List ℕ → List ℕ) → ℕ → ℕ → List (List ℕ) → List (List ℕ)
range_siblings H first count digests = siblings_below H (length digests) first count digests

-- a tree that is rebuilt from a range: its digest, the digests that are left, and what is hashed for its nodes
pub record Rebuilt : Type 0 where
  pub digest : List ℕ
  pub rest : List (List ℕ)
  pub hashed : List (List ℕ)

-- the node above two trees, of which the right one is rebuilt with the digests that the left one leaves
abbrev pub above_both : (List ℕ → List ℕ) → Rebuilt → Rebuilt → Rebuilt
above_both H left right =
    record {
      digest = node_hash H left.digest right.digest;
      rest = right.rest;
      hashed = node_input left.digest right.digest ∷ (left.hashed ++ right.hashed);
    }

-- the tree of n leaves, at most 2 ^ height, from the digests of the leaves from first on and those beside them, left to right; None if these are too few
unfoldable pub rebuilt : (List ℕ → List ℕ) → ℕ → ℕ → ℕ → List (List ℕ) → List (List ℕ)
    → Option Rebuilt
rebuilt H k n first [] [] = None
rebuilt H k n first [] (sibling ∷ siblings) =
    Some (record { digest = sibling; rest = siblings; hashed = [] })
rebuilt H zero n first (digest ∷ range) siblings =
    Some (record { digest = digest; rest = siblings; hashed = [] })
rebuilt H (suc k) n first (digest ∷ range) siblings =
    if nat_le n (2 ^ k) then rebuilt H k n first (digest ∷ range) siblings
    else option_and_then (λ left.
    option_map (above_both H left)
    (rebuilt H k (n - 2 ^ k) (first - 2 ^ k) (drop (2 ^ k - first) (digest ∷ range)) left.rest))
    (rebuilt H k (2 ^ k) first (take (2 ^ k - first) (digest ∷ range)) siblings)

-- a range and digests rebuild a tree with this digest, and leave these digests
pub record Rebuilds (tree : Option Rebuilt) (digest : List ℕ) (rest : List (List ℕ)) : Type 0 where
  pub hashed : List (List ℕ)
  pub is : tree ≡ Some (record { digest = digest; rest = rest; hashed = hashed })

-- a digest, if no other is left
abbrev pub if_none_left : List (List ℕ) → List ℕ → Option (List ℕ)
if_none_left [] digest = Some digest
if_none_left (sibling ∷ rest) digest = None

-- the digest of a tree of n leaves, from the digests of the leaves from first on and all those beside them; None if these are too many or too few
abbrev pub tree_from_range : (List ℕ → List ℕ) → ℕ → ℕ → List (List ℕ) → List (List ℕ)
    → Option (List ℕ)
tree_from_range H first n range siblings =
    option_and_then (λ tree. if_none_left tree.rest tree.digest) (rebuilt H n n first range siblings)

-- what is hashed for the nodes, if a tree is rebuilt
abbrev pub hashed_for : Option Rebuilt → List (List ℕ)
hashed_for None = []
hashed_for (Some tree) = tree.hashed

-- chunks and digests lead to a root, as the chunks from first on of a bitmap of some shape
abbrev pub RangeLeadsTo : (List ℕ → List ℕ) → List ℕ → Shape → ℕ → List (List ℕ) → List (List ℕ)
    → Type 0
RangeLeadsTo H root s first chunks siblings =
    (0 < length chunks) × (first + length chunks ≤ chunk_count s)
    × (option_map (root_over H s)
    (tree_from_range H first (chunk_count s) (leaf_hashes H chunks) siblings) ≡ Some root)

-- what is hashed to recompute a root from a range: the root's input, each chunk, and each node that is rebuilt
abbrev pub range_inputs : (List ℕ → List ℕ) → Shape → ℕ → List (List ℕ) → List (List ℕ)
    → List (List ℕ)
range_inputs H s first chunks siblings =
    and_above (root_input s)
    (tree_from_range H first (chunk_count s) (leaf_hashes H chunks) siblings)
    (map leaf_input chunks ++ hashed_for
    (rebuilt H (chunk_count s) (chunk_count s) first (leaf_hashes H chunks) siblings))

-- a bitmap has this shape, and these chunks from first on
abbrev pub HasRange : (List ℕ → List ℕ) → Bitmap → Shape → ℕ → List (List ℕ) → Type 0
HasRange H b s first chunks = (i : ℕ) → i < length chunks
    → Has H b s (first + i) (slice_index_or chunks i [])

-- each range of retained chunks and the digests beside it lead to the root
abbrev pub ShowsRanges : (List ℕ → List ℕ) → Type 0
ShowsRanges H = (b : Bitmap) (first count : ℕ) → IsBitmap b → 0 < count
    → first + count ≤ length b.chunks
    → RangeLeadsTo H (root_of H b) b.shape (b.shape.pruned + first)
    (take count (drop first b.chunks))
    (range_siblings H (b.shape.pruned + first) count (chunk_digests H b))

-- what leads to the root of a bitmap is in the bitmap, unless an input of the range and one of the bitmap collide
abbrev pub BindsRanges : (List ℕ → List ℕ) → Type 0
BindsRanges H = (b : Bitmap) (s : Shape) (first : ℕ) (chunks siblings : List (List ℕ)) → IsBitmap b
    → Fits s → All AreBytes chunks → All IsDigest siblings
    → RangeLeadsTo H (root_of H b) s first chunks siblings
    → HasRange H b s first chunks
    ⊎ Collision H (range_inputs H s first chunks siblings) (bitmap_inputs H b)

-- whichever bitmap has this root has this shape and these chunks, unless an input of the range and one of the bitmap collide
abbrev pub BindsRange : (List ℕ → List ℕ) → List ℕ → Shape → ℕ → List (List ℕ) → List (List ℕ)
    → Type 0
BindsRange H root s first chunks siblings = (b : Bitmap) → IsBitmap b → root_of H b ≡ root
    → HasRange H b s first chunks
    ⊎ Collision H (range_inputs H s first chunks siblings) (bitmap_inputs H b)

-- a range that led to a tree leads to the root after a prune
abbrev pub KeepsRanges : (List ℕ → List ℕ) → Type 0
KeepsRanges H = (b : Bitmap) (more first : ℕ) (chunks siblings : List (List ℕ)) → 0 < length chunks
    → first + length chunks ≤ chunk_count b.shape
    → tree_from_range H first (chunk_count b.shape) (leaf_hashes H chunks) siblings
    ≡ Some (tree_hash H (chunk_digests H b))
    → RangeLeadsTo H (root_of H (after_pruning H more b))
    (shape_after_pruning more b.shape) first chunks siblings
