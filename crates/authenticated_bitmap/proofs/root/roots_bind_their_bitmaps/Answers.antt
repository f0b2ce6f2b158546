use Rattle.authenticated_bitmap.proofs.Roots.{binds_bitmaps}
use Rattle.authenticated_bitmap.proofs.root.roots_bind_their_bitmaps.Goals as goal

pub returns : goal.returns
returns c = binds_bitmaps
