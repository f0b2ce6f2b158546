use Rattle.historical_bitmap.proofs.History.KeptCommits.{kept_none}
use Rattle.historical_bitmap.proofs.bitmap.historical.commits.BitMap+N+Clean.clear_history.Goals as goal

pub invariant_of-self : goal.invariant_of-self
invariant_of-self g c = (tt, rw c.clear.ensures (kept_none g.row.N c.self.inside.current c.self.inside.commits c.self.inside.last c.self.invariant.1))
