-- What the calls do that check a proof against a root, with SHA-256. A chunk has n bytes.
use Rattle.std.specs.Prelude.{◌≡◌, ℕ, ◌<◌, ◌≤◌, ◌*◌, ◌==◌, ◌||◌, List, length, ◌⊎◌, Result, Ok, Err, MatchBool, MatchResult, nat_eq, nat_le, nat_lt, if◌then◌else◌}
use Rattle.std.specs.List.{flat_map}
use Rattle.sha2.specs.Sha256.{sha256}
use Rattle.bitmap_bytes.specs.Chunk.{bit_value}
use Rattle.authenticated_bitmap.specs.Tree.{Collision}
use Rattle.authenticated_bitmap.specs.Root.{BindsChunk, Bitmap, IsBitmap, LeadsTo, bit_of, bitmap_inputs, chunk_bit, chunk_inputs, chunk_of_bit, root_of}
use Rattle.authenticated_bitmap.specs.Encoding.{ChunkProof, proof_in}
use Rattle.authenticated_bitmap.specs.Range.{BindsRange, RangeLeadsTo}
use Rattle.authenticated_bitmap.specs.RangeEncoding.{ChunkRangeProof, range_proof_in}
use Rattle.bitmap_c.specs.Reads.{Returns}
use Rattle.bitmap_c.specs.Widths.{is_width}

-- a check returns what a proof shows if the proof verifies, and otherwise status 28
abbrev pub Checks : {A : Type 0} → Type 0 → (status : ℕ) (old new : A) → Result A ℕ → Type 0
Checks Verifies status old new shown =
    (Verifies × Returns status old new shown)
    ⊎ ((Verifies → ⊥) × Returns status old new (Err 28))

-- the check of a width that there is, but status 17 if there is no such width
abbrev pub AtWidth : {A : Type 0} → ℕ → (status : ℕ) (old new : A) → Type 0 → Type 0
AtWidth n status old new Is = MatchBool (is_width n) Is (Returns status old new (Err 17))

-- the check, but status 18 if a buffer does not have the size of what is copied into it
abbrev pub IntoBuffer : {A : Type 0} → (size wanted status : ℕ) (old new : A) → Type 0 → Type 0
IntoBuffer size wanted status old new Is =
    MatchBool (nat_eq size wanted) Is (Returns status old new (Err 18))

-- ---- a proof of a chunk

-- the proof verifies against a root
abbrev pub Verifies : List ℕ → ChunkProof → Type 0
Verifies root p = LeadsTo sha256 root p.shape p.index p.chunk p.path

-- what the check of a proof of a chunk writes
pub record ChunkShown : Type 0 where
  pub chunk : List ℕ
  pub len : ℕ
  pub pruned : ℕ
  pub index : ℕ

-- these four
abbrev pub chunk_outputs : (chunk : List ℕ) (len pruned index : ℕ) → ChunkShown
chunk_outputs chunk len pruned index =
    record { chunk = chunk; len = len; pruned = pruned; index = index }

-- what a proof of a chunk shows
abbrev pub chunk_shown : ChunkProof → ChunkShown
chunk_shown p = chunk_outputs p.chunk p.shape.len p.shape.pruned p.index

-- what the check of bytes as a proof of a chunk does at a width that there is: status 11 if they are no proof
abbrev pub ChecksChunkOf : ℕ → (root bytes : List ℕ) (status : ℕ) (old new : ChunkShown) → Type 0
ChecksChunkOf n root bytes status old new = MatchResult (proof_in n bytes)
    (λ p. IntoBuffer (length old.chunk) n status old new
    (Checks (Verifies root p) status old new (Ok (chunk_shown p))))
    (λ e. Returns status old new (Err 11))

-- the same at any width
abbrev pub ChecksChunk : ℕ → (root bytes : List ℕ) (status : ℕ) (old new : ChunkShown) → Type 0
ChecksChunk n root bytes status old new =
    AtWidth n status old new (ChecksChunkOf n root bytes status old new)

-- bytes are read as a proof, and whichever bitmap has this root has the proof's shape and its chunk, unless an input of the proof and one of the bitmap collide
abbrev pub ShowsChunk : ℕ → (root bytes : List ℕ) → Type 0
ShowsChunk n root bytes = MatchResult (proof_in n bytes)
    (λ p. BindsChunk sha256 root p.shape p.index p.chunk p.path)
    (λ e. ⊥)

-- ---- a bit

-- the bit at a position that a proof of a chunk shows, but status 2 if the position is not below the length, else status 3 if its chunk is pruned, and else status 28 if the proof is of another chunk
abbrev pub bit_shown : ℕ → ChunkProof → Result ℕ ℕ
bit_shown position p =
    if nat_le p.shape.len position then Err 2
    else (if nat_lt (chunk_of_bit p.shape position) p.shape.pruned then Err 3
    else (if p.index == chunk_of_bit p.shape position
    then Ok (bit_value (chunk_bit p.shape.width p.chunk position)) else Err 28))

-- what the check of bytes as a proof of a bit does at a width that there is: status 11 if they are no proof
abbrev pub ChecksBitOf : ℕ → (root bytes : List ℕ) (position status old new : ℕ) → Type 0
ChecksBitOf n root bytes position status old new = MatchResult (proof_in n bytes)
    (λ p. Checks (Verifies root p) status old new (bit_shown position p))
    (λ e. Returns status old new (Err 11))

-- the same at any width
abbrev pub ChecksBit : ℕ → (root bytes : List ℕ) (position status old new : ℕ) → Type 0
ChecksBit n root bytes position status old new =
    AtWidth n status old new (ChecksBitOf n root bytes position status old new)

-- a bitmap retains a position, and has this bit there
pub record RetainsBit (position bit : ℕ) (b : Bitmap) : Type 0 where
  pub within : position < b.shape.len
  pub retained : b.shape.pruned ≤ chunk_of_bit b.shape position
  pub value : bit ≡ bit_value (bit_of b position)

-- a bitmap ends at or before a position
abbrev pub EndsBefore : ℕ → Bitmap → Type 0
EndsBefore position b = b.shape.len ≤ position

-- a bitmap has pruned the chunk of a position
abbrev pub HasPruned : ℕ → Bitmap → Type 0
HasPruned position b = chunk_of_bit b.shape position < b.shape.pruned

-- bytes are read as a proof, and whichever bitmap has this root has a property, unless an input of the proof and one of the bitmap collide
abbrev pub Shows : ℕ → (root bytes : List ℕ) → (Bitmap → Type 0) → Type 0
Shows n root bytes Is = MatchResult (proof_in n bytes)
    (λ p. (b : Bitmap) → IsBitmap b → root_of sha256 b ≡ root
    → Is b ⊎ Collision sha256 (chunk_inputs sha256 p.shape p.index p.chunk p.path)
    (bitmap_inputs sha256 b))
    (λ e. ⊥)

-- ---- a proof of a range

-- the proof of a range verifies against a root
abbrev pub RangeVerifies : List ℕ → ChunkRangeProof → Type 0
RangeVerifies root p = RangeLeadsTo sha256 root p.shape p.first p.chunks p.siblings

-- what the check of a proof of a range writes, besides the size of the chunks: the bytes of these, one chunk after another, and three numbers
pub record RangeShown : Type 0 where
  pub chunks : List ℕ
  pub len : ℕ
  pub pruned : ℕ
  pub first : ℕ

-- these four
abbrev pub range_outputs : (chunks : List ℕ) (len pruned first : ℕ) → RangeShown
range_outputs chunks len pruned first =
    record { chunks = chunks; len = len; pruned = pruned; first = first }

-- what a proof of a range shows
abbrev pub range_shown : ChunkRangeProof → RangeShown
range_shown p =
    range_outputs (flat_map (λ chunk. chunk) p.chunks) p.shape.len p.shape.pruned p.first

-- what the check of bytes as a proof of a range does at a width that there is: status 11 if they are no proof
abbrev pub ChecksRangeOf : ℕ → (root bytes : List ℕ) (status : ℕ) (old new : RangeShown) → Type 0
ChecksRangeOf n root bytes status old new = MatchResult (range_proof_in n bytes)
    (λ p. IntoBuffer (length old.chunks) (n * length p.chunks) status old new
    (Checks (RangeVerifies root p) status old new (Ok (range_shown p))))
    (λ e. Returns status old new (Err 11))

-- the same at any width
abbrev pub ChecksRange : ℕ → (root bytes : List ℕ) (status : ℕ) (old new : RangeShown) → Type 0
ChecksRange n root bytes status old new =
    AtWidth n status old new (ChecksRangeOf n root bytes status old new)

-- the size of the chunks in bytes is written with DONE and with WRONG_SIZE, and otherwise it is unchanged
abbrev pub WritesSize : ℕ → List ℕ → (status old new : ℕ) → Type 0
WritesSize n bytes status old new = MatchBool (nat_eq status 0 || nat_eq status 18)
    (MatchResult (range_proof_in n bytes) (λ p. new ≡ n * length p.chunks) (λ e. ⊥))
    (new ≡ old)

-- bytes are read as a proof of a range, and whichever bitmap has this root has the proof's shape and its chunks, unless an input of the proof and one of the bitmap collide
abbrev pub ShowsRange : ℕ → (root bytes : List ℕ) → Type 0
ShowsRange n root bytes = MatchResult (range_proof_in n bytes)
    (λ p. BindsRange sha256 root p.shape p.first p.chunks p.siblings)
    (λ e. ⊥)
