-- Proofs of consecutive chunks of a version.
use Rattle.std.specs.Prelude.{ℕ, ◌+◌, ◌&&◌, Bool, List, Option, Some, None, if◌then◌else◌, nat_le, nat_lt}
use Rattle.authenticated_bitmap.specs.Range.{range_siblings}
use Rattle.authenticated_bitmap.specs.Root.{Bitmap, chunk_count, chunk_digests}

-- whether a bitmap of some chunks has the count chunks from first on, of which there is one at least
abbrev pub has_range : ℕ → ℕ → ℕ → Bool
has_range first count total = nat_lt 0 count && nat_le (first + count) total

-- the digests beside the count chunks from first on, if there are the bitmap and these chunks
abbrev pub siblings_if : (List ℕ → List ℕ) → ℕ → ℕ → Option Bitmap → Option (List (List ℕ))
siblings_if H first count None = None
siblings_if H first count (Some b) = if has_range first count (chunk_count b.shape)
    then Some (range_siblings H first count (chunk_digests H b)) else None
