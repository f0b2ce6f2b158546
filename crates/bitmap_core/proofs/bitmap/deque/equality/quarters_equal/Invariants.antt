use Rattle.bitmap_core.proofs.Chunks.Quarters.{AreEqualBelow}
use Rattle.bitmap_core.proofs.bitmap.deque.equality.quarters_equal.Given as goal

abbrev pub invariant-loop-i : goal.invariant-loop-i
invariant-loop-i l = AreEqualBelow l.a l.b l.count l.i
