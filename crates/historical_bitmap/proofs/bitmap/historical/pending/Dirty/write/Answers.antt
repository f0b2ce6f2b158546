use Rattle.std.proofs.Common.{sym, refl}
use Rattle.historical_bitmap.proofs.Pending.Writes.{writes_set}
use Rattle.historical_bitmap.proofs.bitmap.historical.pending.Dirty.write.Goals as goal

pub returns-clause-ok : goal.returns-clause-ok
returns-clause-ok g c =
    let set = rw c.chunk_index-index.ensures at c.in_ok-write_bit.ensures.ok in
    rw (sym c.self.view_is) (writes_set g.row.N c.args.current.now _ _ c.args.bit c.args.value set.0 refl refl refl set.1)
