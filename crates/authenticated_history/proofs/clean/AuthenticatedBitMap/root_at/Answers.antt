use Rattle.authenticated_history.proofs.StoredReads.{version_is_bitmap}
use Rattle.authenticated_history.proofs.clean.AuthenticatedBitMap.root_at.Goals as goal

pub returns-clause-bitmap : goal.returns-clause-bitmap
returns-clause-bitmap g c =
    rw (← c.self.view_is)
    (version_is_bitmap (g.D.Digest.digest_of c.self.inside.hash) g.row.N c.args.number (record { hash = c.self.inside.hash; bits = c.self.inside.bits; digests = c.self.inside.digests }) c.in_ok-bits.bits c.in_ok-digests.digests c.self.invariant c.in_ok-bits.ensures.width c.len.ensures.lawful c.in_ok-bits.ensures.value c.in_ok-digests.ensures.value)
