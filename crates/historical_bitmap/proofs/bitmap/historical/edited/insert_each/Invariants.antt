use Rattle.std.proofs.Common.{Some, take}
use Rattle.bitmap_core.specs.PrunedBits.{chunk, truncated}
use Rattle.historical_bitmap.specs.Pending.{PutsEach}
use Rattle.historical_bitmap.proofs.bitmap.historical.edited.insert_each.Given as goal

abbrev pub invariant-loop-at : goal.invariant-loop-at
invariant-loop-at g l = PutsEach l.fn.stored.entries l.stored.entries (take l.at l.fn.indices) (λ q. Some (chunk g.row.N (truncated g.row.N l.fn.current l.fn.len) q))
