use Rattle.std.proofs.Common.{arith}
use Rattle.historical_bitmap.specs.History.{past_number}
use Rattle.historical_bitmap.proofs.History.InPlace.{entries_rise}
use Rattle.historical_bitmap.proofs.History.KeptCommits.{can_undo_past}
use Rattle.historical_bitmap.proofs.bitmap.historical.at.BitMap+N+Clean.chunk_at.Goals as goal

pub kept_past-kept-requires : goal.kept_past-kept-requires
kept_past-kept-requires g c =
    let all = can_undo_past g.row.N c.args.number c.self.inside.commits c.self.inside.current c.self.invariant.1.rise c.self.invariant.1.undo in (
      omega arith,
      (
        omega (arith, c.len.ensures.width.fits),
        (
          c.len.ensures.width,
          (c.self.invariant.1.rise, (rw (← c.self.view_is) at c.requires.past, entries_rise g.row.N (past_number c.args.number c.self.inside.commits) c.self.inside.current all)),
        ),
      ),
    )

pub kept_or_current-requires : goal.kept_or_current-requires
kept_or_current-requires g c = (omega arith, (omega (arith, c.len.ensures.width.fits), (c.requires.retained, rw (← c.self.view_is) c.kept_past-kept.ensures)))
