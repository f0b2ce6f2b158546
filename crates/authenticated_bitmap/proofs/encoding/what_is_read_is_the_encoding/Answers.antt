use Rattle.authenticated_bitmap.proofs.Encodings.{written_so}
use Rattle.authenticated_bitmap.proofs.encoding.what_is_read_is_the_encoding.Goals as goal

pub returns : goal.returns
returns c = written_so
