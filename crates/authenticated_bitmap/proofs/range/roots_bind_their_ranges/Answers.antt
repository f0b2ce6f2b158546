use Rattle.authenticated_bitmap.proofs.RangeRoots.{binds_ranges}
use Rattle.authenticated_bitmap.proofs.range.roots_bind_their_ranges.Goals as goal

pub returns : goal.returns
returns c = binds_ranges
