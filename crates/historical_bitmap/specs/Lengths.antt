-- Edits that make a batch longer by many bits at once. A chunk has n bytes.
use Rattle.std.specs.Prelude.{◌≡◌, ℕ, ◌-◌, ◌*◌, ◌/◌, ◌<◌, ◌≤◌, ◌⊎◌, Bool, false, List, length, replicate, slice_index_or, if◌then◌else◌, nat_eq, nat_lt, Some, MatchOption, unwrap_or}
use Rattle.std.specs.Map.{lookup}
use Rattle.bitmap_bytes.specs.Chunk.{chunk_bit}
use Rattle.bitmap_core.specs.PrunedBits.{PrunedBits, bit_len}
use Rattle.historical_bitmap.specs.Edits.{Edit, from_to, pushes}
use Rattle.historical_bitmap.specs.Pending.{PendingEdits, PutsEach}
use Rattle.historical_bitmap.specs.View.{View, IsEditedAt}

-- the edits that append zeros up to length len; none if the bitmap has that length or more
abbrev pub pushes_to : ℕ → PrunedBits → ℕ → List Edit
pushes_to n b len = pushes (replicate (len - bit_len n b) false)

-- the chunk of each position from lo up to, but not including, hi is an edited chunk
abbrev pub AreEdited : ℕ → View PendingEdits → ℕ → ℕ → Type 0
AreEdited n v lo hi = (position : ℕ) → lo ≤ position → position < hi → IsEditedAt n v position

-- the new entries have, under each index i from `first` up to, but not including, `past`, its old chunk, or `other i` if there is none; other keys keep their values
abbrev pub OpensChunks : (ℕ → List ℕ) → List (ℕ × List ℕ) → List (ℕ × List ℕ) → ℕ → ℕ → Type 0
OpensChunks other old new first past =
    PutsEach old new (from_to first past) (λ i. Some (unwrap_or (lookup (nat_eq i) old) (other i)))

-- the n bytes of chunk i: the old ones before position len, and from there on a list of values, and zeros past them
pub record IsJoined (n : ℕ) (old : List ℕ) (len : ℕ) (values : List Bool) (i : ℕ)
    (bytes : List ℕ) : Type 0 where
  pub size : length bytes ≡ n
  pub bits : (k : ℕ) → k / (8 * n) ≡ i
      → chunk_bit n bytes k ≡ (if nat_lt k len then chunk_bit n old k
      else slice_index_or values (k - len) false)

-- the new entries have, under each index i from `first` up to, but not including, `past`, its old chunk, or `other i` if there is none, with a list of values from position len on; other keys keep their values
pub record JoinsChunks (n : ℕ) (other : ℕ → List ℕ) (old new : List (ℕ × List ℕ))
    (first past len : ℕ) (values : List Bool) : Type 0 where
  pub joined : (i : ℕ) → first ≤ i → i < past
      → MatchOption (lookup (nat_eq i) new) ⊥
      (IsJoined n (unwrap_or (lookup (nat_eq i) old) (other i)) len values i)
  pub others : (i : ℕ) → (i < first) ⊎ (past ≤ i) → lookup (nat_eq i) new ≡ lookup (nat_eq i) old
