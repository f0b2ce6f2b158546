-- One digest per chunk of a bitmap. A chunk has n bytes.
use Rattle.std.specs.Prelude.{ℕ, List, Option, map}
use Rattle.std.specs.List.{range_with_len}
use Rattle.std.specs.Option.{option_map}
use Rattle.bitmap_core.specs.PrunedBits.{PrunedBits}
use Rattle.historical_bitmap.specs.Changes.{chunk_total, retained_bytes}

-- the digest of chunk i, or `None` if the chunk is pruned
abbrev pub digest_at : ℕ → (List ℕ → ℕ) → PrunedBits → ℕ → Option ℕ
digest_at n digest b i = option_map digest (retained_bytes n b i)

-- the digests of all chunks, in order
abbrev pub digests_of : ℕ → (List ℕ → ℕ) → PrunedBits → List (Option ℕ)
digests_of n digest b = map (digest_at n digest b) (range_with_len 0 (chunk_total n b))
