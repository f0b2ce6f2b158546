-- The root of a bitmap: the digest of its shape and of the tree of its chunks. The tree is over all chunks by absolute index: of a pruned chunk the digest stays.
use Rattle.std.specs.Prelude.{◌≡◌, ℕ, Bool, ◌+◌, ◌-◌, ◌*◌, ◌/◌, ◌%◌, ◌^◌, ◌<◌, ◌≤◌, ◌==◌, List, [], ◌∷◌, ◌++◌, length, take, drop, map, Some, All, slice_index_or, ◌⊎◌}
use Rattle.std.specs.Int.{w64, to_be_bytes, div_ceil, bit_at}
use Rattle.std.specs.Option.{option_map}
use Rattle.authenticated_bitmap.specs.Tree.{leaf_input, leaf_hash, leaf_hashes, tree_hash, root_from_path, audit_path, and_above, path_inputs, node_inputs, AreBytes, IsDigest, Collision}

-- the width of a chunk in bytes, the length in bits with the pruned ones, and the number of pruned chunks
pub record Shape : Type 0 where
  pub width : ℕ
  pub len : ℕ
  pub pruned : ℕ

-- a bitmap: its shape, the digest of each pruned chunk, and the bytes of each retained chunk
pub record Bitmap : Type 0 where
  pub shape : Shape
  pub pruned_digests : List (List ℕ)
  pub chunks : List (List ℕ)

-- the number of chunks, with the pruned ones and a partly used last one
abbrev pub chunk_count : Shape → ℕ
chunk_count s = div_ceil s.len (8 * s.width)

-- the digest of each chunk, by its absolute index
abbrev pub chunk_digests : (List ℕ → List ℕ) → Bitmap → List (List ℕ)
chunk_digests H b = b.pruned_digests ++ leaf_hashes H b.chunks

-- each number in eight bytes, most significant first
abbrev pub header : Shape → List ℕ
header s = to_be_bytes w64 s.width ++ to_be_bytes w64 s.len ++ to_be_bytes w64 s.pruned

-- what is hashed for the root: the byte 2, the header, and the digest of the tree
unfoldable pub root_input : Shape → List ℕ → List ℕ
root_input s tree = 2 ∷ header s ++ tree

-- the root, from the digest of the tree
abbrev pub root_over : (List ℕ → List ℕ) → Shape → List ℕ → List ℕ
root_over H s tree = H (root_input s tree)

-- the root of a bitmap
abbrev pub root_of : (List ℕ → List ℕ) → Bitmap → List ℕ
root_of H b = root_over H b.shape (tree_hash H (chunk_digests H b))

-- what is hashed for the root of a bitmap: the root's input, each retained chunk, and each node
abbrev pub bitmap_inputs : (List ℕ → List ℕ) → Bitmap → List (List ℕ)
bitmap_inputs H b = root_input b.shape (tree_hash H (chunk_digests H b))
    ∷ (map leaf_input b.chunks ++ node_inputs H (chunk_digests H b))

-- each number of a shape fits eight bytes
pub record Fits (s : Shape) : Type 0 where
  pub width : s.width < 2 ^ 64
  pub len : s.len < 2 ^ 64
  pub pruned : s.pruned < 2 ^ 64

-- a bitmap has as many chunks, and as many pruned ones, as its shape says
pub record IsBitmap (b : Bitmap) : Type 0 where
  pub fits : Fits b.shape
  pub pruned : length b.pruned_digests ≡ b.shape.pruned
  pub count : b.shape.pruned + length b.chunks ≡ chunk_count b.shape
  pub digests : All IsDigest b.pruned_digests
  pub bytes : All AreBytes b.chunks

-- a chunk and a path lead to a root, as chunk i of a bitmap of some shape
abbrev pub LeadsTo : (List ℕ → List ℕ) → List ℕ → Shape → ℕ → List ℕ → List (List ℕ) → Type 0
LeadsTo H root s i chunk path = (i < chunk_count s)
    × (option_map (root_over H s) (root_from_path H i (chunk_count s) (leaf_hash H chunk) path)
    ≡ Some root)

-- what is hashed to recompute a root from a chunk and a path: the root's input, the chunk, and each node of the way
abbrev pub chunk_inputs : (List ℕ → List ℕ) → Shape → ℕ → List ℕ → List (List ℕ) → List (List ℕ)
chunk_inputs H s i chunk path =
    and_above (root_input s) (root_from_path H i (chunk_count s) (leaf_hash H chunk) path)
    (path_inputs H i (chunk_count s) chunk path)

-- a bitmap has this shape and this digest of chunk i, and if the chunk is retained, its bytes are these
pub record Has (H : List ℕ → List ℕ) (b : Bitmap) (s : Shape) (i : ℕ)
    (chunk : List ℕ) : Type 0 where
  pub shape : b.shape ≡ s
  pub digest : leaf_hash H chunk ≡ slice_index_or (chunk_digests H b) i []
  pub retained : s.pruned ≤ i → chunk ≡ slice_index_or b.chunks (i - s.pruned) []

-- each retained chunk and its audit path lead to the root
abbrev pub ShowsChunks : (List ℕ → List ℕ) → Type 0
ShowsChunks H = (b : Bitmap) (i : ℕ) → IsBitmap b → i < length b.chunks
    → LeadsTo H (root_of H b) b.shape (b.shape.pruned + i) (slice_index_or b.chunks i [])
    (audit_path H (b.shape.pruned + i) (chunk_digests H b))

-- what leads to the root of a bitmap is in the bitmap, unless an input of the path and one of the bitmap collide
abbrev pub BindsBitmaps : (List ℕ → List ℕ) → Type 0
BindsBitmaps H = (b : Bitmap) (s : Shape) (i : ℕ) (chunk : List ℕ) (path : List (List ℕ))
    → IsBitmap b → Fits s → AreBytes chunk → All AreBytes path
    → LeadsTo H (root_of H b) s i chunk path
    → Has H b s i chunk ⊎ Collision H (chunk_inputs H s i chunk path) (bitmap_inputs H b)

-- whichever bitmap has this root has this shape and this chunk i, unless an input of the path and one of the bitmap collide
abbrev pub BindsChunk : (List ℕ → List ℕ) → List ℕ → Shape → ℕ → List ℕ → List (List ℕ) → Type 0
BindsChunk H root s i chunk path = (b : Bitmap) → IsBitmap b → root_of H b ≡ root
    → Has H b s i chunk ⊎ Collision H (chunk_inputs H s i chunk path) (bitmap_inputs H b)

-- the shape after more chunks are pruned
abbrev pub shape_after_pruning : ℕ → Shape → Shape
shape_after_pruning more s = record { width = s.width; len = s.len; pruned = s.pruned + more }

-- the bitmap after its first retained chunks are pruned: their digests stay
abbrev pub after_pruning : (List ℕ → List ℕ) → ℕ → Bitmap → Bitmap
after_pruning H more b =
    record {
      shape = shape_after_pruning more b.shape;
      pruned_digests = b.pruned_digests ++ leaf_hashes H (take more b.chunks);
      chunks = drop more b.chunks;
    }

-- pruning keeps the digest of each chunk, so that a path which led to the old tree leads to the new root
pub record KeepsProofs (H : List ℕ → List ℕ) : Type 0 where
  pub bitmap : (b : Bitmap) (more : ℕ) → IsBitmap b → more ≤ length b.chunks
      → b.shape.pruned + more < 2 ^ 64 → IsBitmap (after_pruning H more b)
  pub digests : (b : Bitmap) (more : ℕ)
      → chunk_digests H (after_pruning H more b) ≡ chunk_digests H b
  pub paths : (b : Bitmap) (more i : ℕ) (chunk : List ℕ) (path : List (List ℕ))
      → i < chunk_count b.shape
      → root_from_path H i (chunk_count b.shape) (leaf_hash H chunk) path
      ≡ Some (tree_hash H (chunk_digests H b))
      → LeadsTo H (root_of H (after_pruning H more b))
      (shape_after_pruning more b.shape) i chunk path

-- a bit of a chunk: bit position mod 8 of byte (position / 8) mod width
abbrev pub chunk_bit : ℕ → List ℕ → ℕ → Bool
chunk_bit width chunk position =
    bit_at (slice_index_or chunk (position / 8 % width) 0) (position % 8) == 1

-- the index of the chunk that has a bit
abbrev pub chunk_of_bit : Shape → ℕ → ℕ
chunk_of_bit s position = position / (8 * s.width)

-- a bit of a bitmap, by its absolute position, if its chunk is retained
abbrev pub bit_of : Bitmap → ℕ → Bool
bit_of b position = chunk_bit b.shape.width
    (slice_index_or b.chunks (chunk_of_bit b.shape position - b.shape.pruned) []) position

-- a bitmap has this shape, and if the bit's chunk is retained, this bit at that position
pub record HasBit (b : Bitmap) (s : Shape) (position : ℕ) (bit : Bool) : Type 0 where
  pub shape : b.shape ≡ s
  pub retained : s.pruned ≤ chunk_of_bit s position → bit_of b position ≡ bit

-- whichever bitmap has this root has this shape and this bit, unless an input of the path and one of the bitmap collide
abbrev pub BindsBit : (List ℕ → List ℕ) → List ℕ → Shape → ℕ → Bool → List ℕ → List (List ℕ)
    → Type 0
BindsBit H root s position bit chunk path = (b : Bitmap) → IsBitmap b → root_of H b ≡ root
    → HasBit b s position bit
    ⊎ Collision H (chunk_inputs H s (chunk_of_bit s position) chunk path) (bitmap_inputs H b)
