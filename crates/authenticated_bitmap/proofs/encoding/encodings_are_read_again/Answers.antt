use Rattle.authenticated_bitmap.proofs.Encodings.{read_again}
use Rattle.authenticated_bitmap.proofs.encoding.encodings_are_read_again.Goals as goal

pub returns : goal.returns
returns c = read_again
