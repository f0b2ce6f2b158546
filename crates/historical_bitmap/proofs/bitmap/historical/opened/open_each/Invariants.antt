use Rattle.std.proofs.Common.{Some}
use Rattle.bitmap_core.specs.PrunedBits.{chunk, truncated}
use Rattle.historical_bitmap.specs.Edits.{from_to}
use Rattle.historical_bitmap.specs.Pending.{PutsEach}
use Rattle.historical_bitmap.proofs.bitmap.historical.opened.open_each.Given as goal

abbrev pub invariant-loop-index : goal.invariant-loop-index
invariant-loop-index g l = PutsEach l.fn.chunks l.chunks (from_to l.fn.first l.index) (λ q. Some (chunk g.row.N (truncated g.row.N l.fn.current l.fn.len) q))
