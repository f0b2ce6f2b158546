use Rattle.authenticated_history.proofs.Versions.{follows_begun, tree_size}
use Rattle.authenticated_history.proofs.clean.AuthenticatedBitMap.into_dirty.Goals as goal

pub invariant_of-result : goal.invariant_of-result
invariant_of-result g c =
    tree_size (g.D.Digest.digest_of c.self.inside.hash) g.row.N c.len.result c.chunk_count-count.result c.self.inside.bits.current c.self.inside.digests.current c.self.invariant.current c.len.ensures.value c.chunk_count-count.ensures

pub returns-clause-follows : goal.returns-clause-follows
returns-clause-follows g c =
    follows_begun (g.D.Digest.digest_of c.self.inside.hash) g.row.N c.self.inside.bits c.into_dirty-bits.result c.self.inside.digests c.self.invariant c.into_dirty-bits.ensures.value
