-- Entries with another chunk under an index, and records as the code stores them. Each chunk has one byte.
use Rattle.std.specs.Prelude.{◌≡◌, ℕ, true, false, List, [], ◌∷◌, Some, None}
use Rattle.std.proofs.Common.{refl}
use Rattle.historical_bitmap.specs.Record as spec
use Rattle.historical_bitmap.specs.declared.bitmap.historical.record.ChunkDiff.TheVariants.{Modified, Removed, Added, Pruned}
use Rattle.chunk_map.specs.Entries.{with_chunk}
use Rattle.historical_bitmap.specs.CachedWord.{is_cached_at}
use Rattle.historical_bitmap.specs.Stored.{diff_value, entry_values}

-- the chunks 2 and 5
abbrev two : List (ℕ × List ℕ)
two = (2, 7 ∷ []) ∷ (5, 0 ∷ []) ∷ []

replaced : with_chunk two 5 (9 ∷ []) ≡ (2, 7 ∷ []) ∷ (5, 9 ∷ []) ∷ []
replaced = refl

-- no chunk is added
not_added : with_chunk two 3 (9 ∷ []) ≡ two
not_added = refl

cached_at : is_cached_at (Some 5) 5 ≡ true
cached_at = refl

not_cached_at : is_cached_at (Some 5) 2 ≡ false
not_cached_at = refl

none_cached_at : is_cached_at None 0 ≡ false
none_cached_at = refl

-- a stored record says what happened to each chunk, with its old bytes
stored : entry_values {N = 1} ((0, Pruned (7 ∷ [])) ∷ (1, Modified (5 ∷ [])) ∷ (2, Removed (3 ∷ [])) ∷ (4, Added) ∷ [])
    ≡ (0, spec.ChunkDiff.Pruned (7 ∷ [])) ∷ (1, spec.ChunkDiff.Modified (5 ∷ [])) ∷ (2, spec.ChunkDiff.Removed (3 ∷ [])) ∷ (4, spec.ChunkDiff.Added) ∷ []
stored = refl

stored_one : diff_value {N = 1} (Removed (3 ∷ [])) ≡ spec.ChunkDiff.Removed (3 ∷ [])
stored_one = refl
