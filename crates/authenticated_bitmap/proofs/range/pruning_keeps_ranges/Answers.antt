use Rattle.authenticated_bitmap.proofs.RangeRoots.{keeps_ranges}
use Rattle.authenticated_bitmap.proofs.range.pruning_keeps_ranges.Goals as goal

pub returns : goal.returns
returns c = keeps_ranges
