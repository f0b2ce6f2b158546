use Rattle.authenticated_history.proofs.Versions.{follows_nothing}
use Rattle.authenticated_history.proofs.clean.AuthenticatedBitMap.new.Goals as goal

pub invariant_of-result : goal.invariant_of-result
invariant_of-result g c = follows_nothing (g.D.Digest.digest_of c.args.hash) g.row.N c.requires.width.positive c.new-bits.result c.new-digests.result c.new-bits.ensures c.new-digests.ensures
