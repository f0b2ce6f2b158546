use Rattle.historical_bitmap.proofs.Pending.Edits.{unedited_pending}
use Rattle.historical_bitmap.proofs.Pending.MarkedChunks.{unedited_marks}
use Rattle.historical_bitmap.proofs.bitmap.historical.clean.BitMap+N+Clean.into_dirty.Goals as goal

pub returns-clause-pending : goal.returns-clause-pending
returns-clause-pending g c = rw (c.new-state.ensures, ← c.self.view_is) (unedited_pending g.row.N c.self.inside.current)

pub returns-clause-marks : goal.returns-clause-marks
returns-clause-marks g c = rw c.new-state.ensures (unedited_marks g.row.N c.self.inside.current)
