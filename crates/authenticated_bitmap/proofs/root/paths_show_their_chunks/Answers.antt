use Rattle.authenticated_bitmap.proofs.Roots.{shows_chunks}
use Rattle.authenticated_bitmap.proofs.root.paths_show_their_chunks.Goals as goal

pub returns : goal.returns
returns c = shows_chunks
