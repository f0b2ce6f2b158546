-- The digests of the chunks of a bitmap, as the leaves of a tree that is stored in a second bitmap, and how they follow the commits of the first. A chunk of the first has n bytes.
use Rattle.std.specs.Prelude.{◌≡◌, ℕ, ◌*◌, ◌<◌, ◌≤◌, List, [], ◌∷◌, ◌++◌, length, map, replicate, nat_lt, if◌then◌else◌, slice_index_or, slice_set}
use Rattle.std.specs.List.{range_with_len}
use Rattle.bitmap_core.specs.Meaning.{pruned_meaning}
use Rattle.bitmap_core.specs.PrunedBits.{PrunedBits, bit_len, chunk}
use Rattle.historical_bitmap.specs.Changes.{chunk_total}
use Rattle.historical_bitmap.specs.Replaced.{retained_chunks}
use Rattle.authenticated_bitmap.specs.Tree.{leaf_hash}
use Rattle.authenticated_bitmap.specs.Root.{Bitmap}
use Rattle.authenticated_bitmap.specs.Stored.{nodes, position, stored}
use Rattle.authenticated_bitmap.specs.StoredBitmap.{full_chunks}

-- the digests that a bitmap of width 32 stores: its full chunks
abbrev pub digests_of : PrunedBits → List (List ℕ)
digests_of t = full_chunks (pruned_meaning 32 t)

-- the digests of the first `count` leaves, among the digests that are stored for a tree
abbrev pub leaf_digests : ℕ → List (List ℕ) → List (List ℕ)
leaf_digests count digests =
    map (λ i. slice_index_or digests (position 0 i) []) (range_with_len 0 count)

-- the digests of the first `count` leaves of the tree that a bitmap of width 32 stores
abbrev pub leaves_in : ℕ → PrunedBits → List (List ℕ)
leaves_in count t = leaf_digests count (digests_of t)

-- a bitmap of width 32 has as many chunks as digests are stored for `count` leaves, and nothing is pruned in it
pub record HasTreeSize (count : ℕ) (t : PrunedBits) : Type 0 where
  pub pruned : t.pruned ≡ 0
  pub len : bit_len 32 t ≡ 256 * nodes count

-- a bitmap of width 32 stores a tree of `count` leaves: nothing is pruned in it, and its chunks are the digests that are stored for the leaves which are found among them
pub record StoresTree (H : List ℕ → List ℕ) (count : ℕ) (t : PrunedBits) : Type 0 where
  pub pruned : t.pruned ≡ 0
  pub len : bit_len 32 t ≡ 256 * nodes count
  pub digests : digests_of t ≡ stored H (leaves_in count t)

-- a bitmap of width 32 authenticates a bitmap: it stores a tree with a leaf for each chunk, and the leaf of each retained chunk is the digest of its bytes
pub record Authenticates (H : List ℕ → List ℕ) (n : ℕ) (s t : PrunedBits) : Type 0 where
  pub tree : StoresTree H (chunk_total n s) t
  pub leaves : (i : ℕ) → s.pruned ≤ i → i < chunk_total n s
      → slice_index_or (leaves_in (chunk_total n s) t) i [] ≡ leaf_hash H (chunk n s i)

-- a bitmap as its root has it: the digests of its pruned chunks, from the bitmap that authenticates it, and the bytes of its retained chunks
abbrev pub bitmap_of : ℕ → PrunedBits → PrunedBits → Bitmap
bitmap_of n s t = record {
  shape = record { width = n; len = bit_len n s; pruned = s.pruned };
  pruned_digests = leaves_in s.pruned t;
  chunks = map (chunk n s) (retained_chunks n s);
}

-- the digest of a chunk of zero bytes
abbrev pub zero_leaf : (List ℕ → List ℕ) → ℕ → List ℕ
zero_leaf H n = leaf_hash H (replicate n 0)

-- the digest of chunk i if it is pruned: the one before, or, if there was none, that of a chunk of zero bytes; then one batch appended and pruned the chunk, and no commit has its bytes
abbrev pub pruned_leaf : (List ℕ → List ℕ) → ℕ → List (List ℕ) → ℕ → List ℕ
pruned_leaf H n before i = if nat_lt i (length before) then slice_index_or before i []
    else zero_leaf H n

-- the digest of chunk i after a commit that leaves a state
abbrev pub next_leaf : (List ℕ → List ℕ) → ℕ → List (List ℕ) → PrunedBits → ℕ → List ℕ
next_leaf H n before s i = if nat_lt i s.pruned then pruned_leaf H n before i
    else leaf_hash H (chunk n s i)

-- the digest of each chunk after a commit that leaves a state, from the digests before
abbrev pub next_leaves : (List ℕ → List ℕ) → ℕ → List (List ℕ) → PrunedBits → List (List ℕ)
next_leaves H n before s = map (next_leaf H n before s) (range_with_len 0 (chunk_total n s))

-- the digests of leaves with that of a changed chunk: in the place of its old one, or at the end if it had none
abbrev pub with_leaf : (List ℕ → List ℕ) → List (List ℕ) → ℕ × List ℕ → List (List ℕ)
with_leaf H leaves change = if nat_lt change.0 (length leaves)
    then slice_set leaves change.0 (leaf_hash H change.1) else leaves ++ leaf_hash H change.1 ∷ []

-- the digests of leaves with those of changed chunks, one after another
abbrev pub with_leaves : (List ℕ → List ℕ) → List (List ℕ) → List (ℕ × List ℕ) → List (List ℕ)
with_leaves H leaves [] = leaves
with_leaves H leaves (change ∷ changes) = with_leaves H (with_leaf H leaves change) changes
