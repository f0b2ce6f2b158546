use Rattle.std.proofs.Common.{◌≡◌, ℕ, ◌-◌, ◌<◌, ◌≤◌, false}
use Rattle.historical_bitmap.specs.Index.{has_between, row_of}
use Rattle.historical_bitmap.proofs.bitmap.historical.kept_bytes.KeptBytes.next_between.Given as goal

abbrev pub invariant-loop-place : goal.invariant-loop-place
invariant-loop-place g l = (l.first ≤ l.at) × ((i : ℕ) → l.first ≤ i → i < l.at → has_between l.from l.to (row_of l.self i) ≡ false)

abbrev pub decreases-loop-place : goal.decreases-loop-place
decreases-loop-place g l = l.end - l.at
