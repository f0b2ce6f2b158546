use Rattle.historical_bitmap.proofs.Changes.Unnamed.{pruned_rises}
use Rattle.historical_bitmap.proofs.bitmap.historical.changes.BitMap+N+Clean.pruned_counts_rise.Goals as goal

pub returns : goal.returns
returns g c = λ from to old new order e f.
    pruned_rises g.row.N from to c.self.inside.commits c.self.inside.current c.self.inside.last old new c.self.invariant.1 order
    (rw (← c.self.view_is) at e) (rw (← c.self.view_is) at f)
