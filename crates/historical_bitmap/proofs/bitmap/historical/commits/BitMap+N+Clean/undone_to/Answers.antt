use Rattle.std.proofs.Common.{arith}
use Rattle.historical_bitmap.proofs.History.KeptCommits.{can_undo_past, found_under}
use Rattle.historical_bitmap.proofs.bitmap.historical.commits.BitMap+N+Clean.undone_to.Goals as goal

pub undo_past-requires : goal.undo_past-requires
undo_past-requires g c =
    (omega arith, (omega arith, rw c.in_ok-found.ensures.cases (can_undo_past g.row.N c.args.number c.self.inside.commits c.self.inside.current c.self.invariant.1.rise c.self.invariant.1.undo)))

pub returns : goal.returns
returns g c =
    rw (c.in_ok-undo_past.ensures.ok, c.in_ok-found.ensures.cases, ← c.self.view_is)
    (found_under g.row.N c.args.number c.self.inside.commits c.self.inside.current c.self.invariant.1.rise (rw (← c.self.view_is) at c.requires))
