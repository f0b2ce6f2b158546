use Rattle.authenticated_bitmap.proofs.RangeEncodings.{range_read_again}
use Rattle.authenticated_bitmap.proofs.range_encoding.range_encodings_are_read_again.Goals as goal

pub returns : goal.returns
returns c = range_read_again
