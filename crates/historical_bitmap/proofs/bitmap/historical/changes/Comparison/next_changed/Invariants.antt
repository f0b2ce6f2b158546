use Rattle.std.proofs.Common.{◌≡◌, ◌-◌}
use Rattle.historical_bitmap.specs.Changes.{changed_from}
use Rattle.historical_bitmap.proofs.bitmap.historical.changes.Comparison.next_changed.Given as goal

abbrev pub invariant-loop-chunk : goal.invariant-loop-chunk
invariant-loop-chunk g l = changed_from g.row.N l.self.old l.self.new l.at l.self.end ≡ changed_from g.row.N l.self.old l.self.new l.first l.self.end

abbrev pub decreases-loop-chunk : goal.decreases-loop-chunk
decreases-loop-chunk g l = l.self.end - l.at
