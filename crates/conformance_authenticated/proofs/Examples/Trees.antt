-- Trees of a few leaves, for any hash, and the digests that are stored for them.
use Rattle.std.specs.Prelude.{◌≡◌, ℕ, List, [], ◌∷◌, Some, None}
use Rattle.std.proofs.Common.{refl}
use Rattle.authenticated_bitmap.specs.Stored.{nodes, position, stored, stored_below}
use Rattle.authenticated_bitmap.specs.Tree.{audit_path, climbed, node_hash, root_from_path, siblings, subtree_hash, tree_hash}

-- the tree without leaves is the hash of nothing, and that of one leaf is the digest of the leaf
tree_of_none : (H : List ℕ → List ℕ) → tree_hash H [] ≡ H []
unfolding subtree_hash
tree_of_none H = refl

tree_of_one : (H : List ℕ → List ℕ) (a : List ℕ) → tree_hash H (a ∷ []) ≡ a
unfolding subtree_hash
tree_of_one H a = refl

tree_of_two : (H : List ℕ → List ℕ) (a b : List ℕ) → tree_hash H (a ∷ b ∷ []) ≡ node_hash H a b
unfolding subtree_hash
tree_of_two H a b = refl

-- three leaves are split into two and one
tree_of_three : (H : List ℕ → List ℕ) (a b c : List ℕ) → tree_hash H (a ∷ b ∷ c ∷ []) ≡ node_hash H (node_hash H a b) c
unfolding subtree_hash
tree_of_three H a b c = refl

-- the audit paths of the first and of the last of three leaves, from the leaf up
path_of_first : (H : List ℕ → List ℕ) (a b c : List ℕ) → audit_path H 0 (a ∷ b ∷ c ∷ []) ≡ b ∷ c ∷ []
unfolding siblings subtree_hash
path_of_first H a b c = refl

path_of_last : (H : List ℕ → List ℕ) (a b c : List ℕ) → audit_path H 2 (a ∷ b ∷ c ∷ []) ≡ node_hash H a b ∷ []
unfolding siblings subtree_hash
path_of_last H a b c = refl

-- the path of the first leaf leads to the digest of the tree, and one that is too short leads to none
root_of_first : (H : List ℕ → List ℕ) (a b c : List ℕ) → root_from_path H 0 3 a (b ∷ c ∷ []) ≡ Some (node_hash H (node_hash H a b) c)
unfolding climbed
root_of_first H a b c = refl

root_of_short_path : (H : List ℕ → List ℕ) (a b : List ℕ) → root_from_path H 0 3 a (b ∷ []) ≡ None
unfolding climbed
root_of_short_path H a b = refl

-- of three leaves, the digests of the first two are stored, then that of their node, and then that of the third
stored_of_three : (H : List ℕ → List ℕ) (a b c : List ℕ) → stored H (a ∷ b ∷ c ∷ []) ≡ a ∷ b ∷ node_hash H a b ∷ c ∷ []
unfolding stored_below subtree_hash
stored_of_three H a b c = refl

-- four digests are stored for three leaves, and seven for four
nodes_of_three : nodes 3 ≡ 4
unfolding lib.Count.ones
nodes_of_three = refl

nodes_of_four : nodes 4 ≡ 7
unfolding lib.Count.ones
nodes_of_four = refl

-- the place of the node of the first two leaves, of the third and the fourth leaf, and of the node of all four
place_of_first_node : position 1 0 ≡ 2
unfolding lib.Count.ones
place_of_first_node = refl

place_of_third_leaf : position 0 2 ≡ 3
unfolding lib.Count.ones
place_of_third_leaf = refl

place_of_fourth_leaf : position 0 3 ≡ 4
unfolding lib.Count.ones
place_of_fourth_leaf = refl

place_of_node_of_four : position 2 0 ≡ 6
unfolding lib.Count.ones
place_of_node_of_four = refl
