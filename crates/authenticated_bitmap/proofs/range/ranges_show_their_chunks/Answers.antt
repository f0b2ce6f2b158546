use Rattle.authenticated_bitmap.proofs.RangeRoots.{shows_ranges}
use Rattle.authenticated_bitmap.proofs.range.ranges_show_their_chunks.Goals as goal

pub returns : goal.returns
returns c = shows_ranges
