use Rattle.authenticated_bitmap.proofs.Bitmaps.{authenticated_is_bitmap}
use Rattle.authenticated_history.proofs.clean.AuthenticatedBitMap.root.Goals as goal

pub returns-clause-bitmap : goal.returns-clause-bitmap
returns-clause-bitmap g c =
    rw (← c.self.view_is) (authenticated_is_bitmap (g.D.Digest.digest_of c.self.inside.hash) g.row.N c.self.inside.bits.current c.self.inside.digests.current c.len.ensures.width c.len.ensures.bound c.self.invariant.current)
