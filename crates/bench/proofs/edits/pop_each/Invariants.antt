use Rattle.std.proofs.Common.{length}
use Rattle.bench.proofs.edits.pop_each.Given as goal

abbrev pub decreases-loop-map : goal.decreases-loop-map
decreases-loop-map g l = length l.map
