use Rattle.std.proofs.Common.{◌≡◌, ◌*◌, ◌^◌, ◌≤◌, length, take}
use Rattle.std.specs.List.{sum_by}
use Rattle.historical_bitmap.proofs.bitmap.historical.commits.count_entries.Given as goal

abbrev pub invariant-loop-position : goal.invariant-loop-position
invariant-loop-position g l = (l.total ≡ sum_by (λ commit. length commit.1.entries) (take l.position l.commits)) × (l.total ≤ 2 ^ 64 * l.position)
