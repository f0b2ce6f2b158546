-- A batch that is edited until it has the bits of another state. A chunk has n bytes.
use Rattle.std.specs.Prelude.{◌≡◌, ℕ, ◌+◌, ◌*◌, ◌/◌, ◌<◌, ◌≤◌, Bool, List, [], ◌∷◌, Option, Some, None, nat_eq, ◌==◌, if◌then◌else◌}
use Rattle.std.specs.Map.{lookup}
use Rattle.bitmap_bytes.specs.Chunk.{chunk_bit}
use Rattle.bitmap_core.specs.PrunedBits.{PrunedBits, bit_len, bit_at, IsRetained}
use Rattle.historical_bitmap.specs.Pending.{PendingEdits}
use Rattle.historical_bitmap.specs.View.{View, pending_of}

-- a bitmap has this pruned count, this length, and these bits by position
pub record Has (n pruned len : ℕ) (bit : ℕ → Bool) (b : PrunedBits) : Type 0 where
  pub pruned_is : b.pruned ≡ pruned
  pub len_is : bit_len n b ≡ len
  pub bits : (k : ℕ) → IsRetained n b k → bit_at n b k ≡ bit k

-- a batch is on the same bitmap as another
pub record IsOn (old new : View PendingEdits) : Type 0 where
  pub current : new.current ≡ old.current
  pub commits : new.commits ≡ old.commits
  pub last : new.last ≡ old.last

-- a batch is another one whose pending bitmap has this length and these bits
pub record Makes (n : ℕ) (old : View PendingEdits) (len : ℕ) (bit : ℕ → Bool)
    (new : View PendingEdits) : Type 0 where
  pub on : IsOn old new
  pub has : Has n (pending_of n old).pruned len bit (pending_of n new)

-- the bit of some bytes, if there are any, or another bit
abbrev pub byte_bit_or : ℕ → Option (List ℕ) → ℕ → Bool → Bool
byte_bit_or n None k other = other
byte_bit_or n (Some bytes) k other = chunk_bit n bytes k

-- the bits of some chunks by index, and other bits elsewhere
abbrev pub overlaid : ℕ → List (ℕ × List ℕ) → (ℕ → Bool) → ℕ → Bool
overlaid n chunks bit k = byte_bit_or n (lookup (nat_eq (k / (8 * n))) chunks) k (bit k)

-- these chunks ascend from an index on, and begin before a length
abbrev pub AscendFrom : ℕ → ℕ → ℕ → List (ℕ × List ℕ) → Type 0
AscendFrom n len from [] = Unit {0}
AscendFrom n len from (e ∷ es) = (from ≤ e.0) × (8 * n * e.0 < len) × AscendFrom n len (e.0 + 1) es

-- a batch is another one with a length: bits past the old length are zero
abbrev pub Resizes : ℕ → View PendingEdits → ℕ → View PendingEdits → Type 0
Resizes n old len new = Makes n old len (bit_at n (pending_of n old)) new

-- a batch is another one with the bits of chunk i replaced by those of some bytes
abbrev pub Replaces : ℕ → View PendingEdits → ℕ → List ℕ → View PendingEdits → Type 0
Replaces n old i bytes new =
    Makes n old (bit_len n (pending_of n old))
    (λ k. if k / (8 * n) == i then chunk_bit n bytes k else bit_at n (pending_of n old) k) new

-- a batch is another one with the bits of each of some chunks
abbrev pub Overlays : ℕ → View PendingEdits → List (ℕ × List ℕ) → View PendingEdits → Type 0
Overlays n old chunks new =
    Makes n old (bit_len n (pending_of n old)) (overlaid n chunks (bit_at n (pending_of n old))) new
