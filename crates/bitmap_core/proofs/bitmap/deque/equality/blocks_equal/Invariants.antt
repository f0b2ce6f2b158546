use Rattle.bitmap_core.proofs.Chunks.Quarters.{IsFold}
use Rattle.bitmap_core.proofs.bitmap.deque.equality.blocks_equal.Given as goal

abbrev pub invariant-loop-i : goal.invariant-loop-i
invariant-loop-i l = IsFold l.a l.b l.i l.differing
