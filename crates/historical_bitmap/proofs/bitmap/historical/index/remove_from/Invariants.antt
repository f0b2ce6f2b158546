use Rattle.std.proofs.Common.{◌≡◌, ◌≤◌, length, take}
use mathlib.Core.Logic.{◌⊎◌}
use Rattle.historical_bitmap.specs.Index.{IsIndexOf}
use Rattle.historical_bitmap.proofs.bitmap.historical.index.remove_from.Given as goal

abbrev pub invariant-loop-count : goal.invariant-loop-count
invariant-loop-count g l = record {
  within : l.count ≤ length l.commits.items;
  end : (l.first ≤ l.count) ⊎ (l.count ≡ length l.commits.items);
  index : IsIndexOf l.index (take l.count l.commits.items);
}

abbrev pub decreases-loop-count : goal.decreases-loop-count
decreases-loop-count g l = l.count
