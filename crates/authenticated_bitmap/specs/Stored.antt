-- The digests that are stored: those of the complete subtrees, each after its children, so that a leaf that is appended moves none.
use Rattle.std.specs.Prelude.{◌<◌, ◌≡◌, ℕ, zero, suc, ◌+◌, ◌-◌, ◌*◌, ◌^◌, ◌≤◌, ◌==◌, List, [], ◌∷◌, ◌++◌, length, take, drop, slice_index_or, slice_set, ◌⊎◌, count_ones, if◌then◌else◌}
use Rattle.authenticated_bitmap.specs.Tree.{subtree_hash, tree_hash}

-- those of a tree of at most 2 ^ height leaves, from the digests of the leaves
unfoldable pub stored_below : (List ℕ → List ℕ) → ℕ → List (List ℕ) → List (List ℕ)
stored_below H zero [] = []
stored_below H zero (digest ∷ digests) = digest ∷ []
stored_below H (suc k) digests =
    stored_below H k (take (2 ^ k) digests) ++ stored_below H k (drop (2 ^ k) digests)
    ++ (if length digests == 2 ^ suc k then subtree_hash H (suc k) digests ∷ [] else [])

-- those of the tree of all leaves
abbrev pub stored : (List ℕ → List ℕ) → List (List ℕ) → List (List ℕ)
stored H digests = stored_below H (length digests) digests

-- how many are stored for n leaves
abbrev pub nodes : ℕ → ℕ
nodes n = 2 * n - count_ones n

-- the place of the digest of the index-th subtree of 2 ^ level leaves
abbrev pub position : ℕ → ℕ → ℕ
position level index = nodes (index * 2 ^ level) + (2 * 2 ^ level - 2)

-- the digests of the leaves of that subtree
abbrev pub leaves_under : ℕ → ℕ → List (List ℕ) → List (List ℕ)
leaves_under level index digests = take (2 ^ level) (drop (index * 2 ^ level) digests)

-- what is stored, how many, where, and that more leaves only append to it
pub record StoresSubtrees (H : List ℕ → List ℕ) : Type 0 where
  pub count : (digests : List (List ℕ)) → length (stored H digests) ≡ nodes (length digests)
  pub at : (digests : List (List ℕ)) (level index : ℕ) → (index + 1) * 2 ^ level ≤ length digests
      → slice_index_or (stored H digests) (position level index) []
      ≡ tree_hash H (leaves_under level index digests)
  pub grows : (digests more : List (List ℕ))
      → (rest : List (List ℕ)) × (stored H (digests ++ more) ≡ stored H digests ++ rest)

-- two complete subtrees of n leaves that are stored at one place are one, and a leaf that is replaced changes no subtree beside it
pub record KeepsApart : Type 0 where
  pub places : (n level index other_level other_index : ℕ) → (index + 1) * 2 ^ level ≤ n
      → (other_index + 1) * 2 ^ other_level ≤ n
      → position level index ≡ position other_level other_index
      → (level ≡ other_level) × (index ≡ other_index)
  pub leaves : (digests : List (List ℕ)) (i level index : ℕ) (digest : List ℕ)
      → (i < index * 2 ^ level) ⊎ ((index + 1) * 2 ^ level ≤ i)
      → leaves_under level index (slice_set digests i digest) ≡ leaves_under level index digests
