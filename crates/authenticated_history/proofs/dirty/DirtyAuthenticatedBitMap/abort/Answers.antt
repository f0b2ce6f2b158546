use Rattle.authenticated_history.proofs.Versions.{follows_aborted}
use Rattle.authenticated_history.proofs.dirty.DirtyAuthenticatedBitMap.abort.Goals as goal

pub invariant_of-result : goal.invariant_of-result
invariant_of-result g c =
    follows_aborted (g.D.Digest.digest_of c.self.inside.hash) g.row.N c.self.inside.bits c.abort-bits.result c.self.inside.digests (rw (← c.self.view_is) at c.requires) c.abort-bits.ensures
