use Rattle.std.proofs.Common.{◌≡◌, ℕ, ◌<◌, length}
use Rattle.std.specs.Prelude.{nat_eq}
use Rattle.std.specs.Map.{lookup}
use Rattle.historical_bitmap.proofs.bitmap.historical.edited.remove_from.Given as goal

abbrev pub invariant-loop-index : goal.invariant-loop-index
invariant-loop-index g l = (q : ℕ) → q < l.fn.from → lookup (nat_eq q) l.chunks.entries ≡ lookup (nat_eq q) l.fn.chunks.entries

abbrev pub decreases-loop-index : goal.decreases-loop-index
decreases-loop-index g l = length l.chunks.indices
