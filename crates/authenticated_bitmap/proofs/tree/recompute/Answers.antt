use Rattle.std.proofs.Common.{arith, reverse, ◌∙◌}
use Rattle.authenticated_bitmap.proofs.Complete.{below_power}
use Rattle.authenticated_bitmap.proofs.Heights.{climbed_same_height}
use Rattle.authenticated_bitmap.proofs.tree.recompute.Goals as goal

pub returns-clause-value : goal.returns-clause-value
returns-clause-value g c = c.climb.ensures.value ∙ climbed_same_height (g.D.Digest.digest_of c.args.hash.now) 64 c.args.n c.args.i c.args.n c.args.digest.now (reverse c.args.path.now) (omega arith) (below_power c.args.n)
