-- The bound on the cost of a commit. A chunk has n bytes.
use Rattle.std.specs.Prelude.{ℕ, ◌+◌, ◌*◌, ◌%◌, Bool, List, nat_lt, nat_eq, ◌==◌, ◌&&◌, if◌then◌else◌}
use Rattle.std.specs.Set.{distinct_count}
use Rattle.bitmap_core.specs.PrunedBits.{PrunedBits, bit_len}

-- whether a batch has popped down to whole chunks: the pending bitmap ends with a whole chunk and is shorter than the current one
abbrev pub popped_to_chunks : ℕ → PrunedBits → PrunedBits → Bool
popped_to_chunks n current pending =
    (bit_len n pending % (8 * n) == 0) && nat_lt (bit_len n pending) (bit_len n current)

-- the most entries that the record of a commit may have: one per distinct chunk of the list, and one more if the batch has popped down to whole chunks
abbrev pub most_cost : ℕ → List ℕ → PrunedBits → PrunedBits → ℕ
most_cost n chunks current pending =
    distinct_count nat_eq chunks + (if popped_to_chunks n current pending then 1 else 0)
