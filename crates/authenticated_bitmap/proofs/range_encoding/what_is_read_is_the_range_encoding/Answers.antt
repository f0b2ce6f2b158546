use Rattle.authenticated_bitmap.proofs.RangeEncodings.{range_written_so}
use Rattle.authenticated_bitmap.proofs.range_encoding.what_is_read_is_the_range_encoding.Goals as goal

pub returns : goal.returns
returns c = range_written_so
