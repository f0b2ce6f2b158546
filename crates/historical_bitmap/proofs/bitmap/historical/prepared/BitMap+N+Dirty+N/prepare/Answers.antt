use Rattle.std.proofs.Common.{sym}
use Rattle.historical_bitmap.proofs.Pending.Prepared.{prepared_can_finish}
use Rattle.historical_bitmap.proofs.bitmap.historical.prepared.BitMap+N+Dirty+N.prepare.Goals as goal

pub invariant_of-result : goal.invariant_of-result
invariant_of-result g c =
    prepared_can_finish g.row.N c.self.inside.current c.self.inside.commits c.add_commit.new.commits c.self.inside.state c.args.number c.add_commit.new.current c.len.ensures.width.positive c.self.invariant.0 c.in-Ok.ensures.prepared
    c.self.inside.last c.ranges.number.fits (sym c.in_default.ensures) c.self.invariant.1 c.len.ensures.width c.in-Ok.old_len c.in-Ok.ensures.old_len
