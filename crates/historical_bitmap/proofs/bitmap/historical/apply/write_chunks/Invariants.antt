use Rattle.historical_bitmap.proofs.Pending.AppliedInAnyOrder.{AreWritten}
use Rattle.historical_bitmap.proofs.bitmap.historical.apply.write_chunks.Given as goal

abbrev pub invariant-loop-place : goal.invariant-loop-place
invariant-loop-place g l = AreWritten g.row.N l.fn.current l.fn.edited.entries l.fn.edited.indices l.place l.current
