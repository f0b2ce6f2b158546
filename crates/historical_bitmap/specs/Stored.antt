-- Reverse records as the code stores them.
use Rattle.std.specs.Prelude.{ℕ, List, map}
use Rattle.historical_bitmap.specs.Record as spec
use Rattle.historical_bitmap.specs.declared.bitmap.historical.record.ChunkDiff.{ChunkDiff}
use Rattle.historical_bitmap.specs.declared.bitmap.historical.record.ChunkDiff.TheVariants.{Modified, Removed, Added, Pruned}

-- the specification of a stored chunk entry
abbrev pub diff_value : {N : ℕ} → ChunkDiff N → spec.ChunkDiff
diff_value (Modified bytes) = spec.ChunkDiff.Modified bytes
diff_value (Removed bytes) = spec.ChunkDiff.Removed bytes
diff_value Added = spec.ChunkDiff.Added
diff_value (Pruned bytes) = spec.ChunkDiff.Pruned bytes

-- the specifications of stored entries
abbrev pub entry_values : {N : ℕ} → List (ℕ × ChunkDiff N) → List (ℕ × spec.ChunkDiff)
entry_values entries = map (λ e. (e.0, diff_value e.1)) entries
