use Rattle.std.proofs.Common.{None, take}
use Rattle.historical_bitmap.specs.Pending.{PutsEach}
use Rattle.historical_bitmap.proofs.bitmap.historical.edited.remove_each.Given as goal

abbrev pub invariant-loop-at : goal.invariant-loop-at
invariant-loop-at g l = PutsEach l.fn.stored.entries l.stored.entries (take l.at l.fn.indices) (λ q. None)
