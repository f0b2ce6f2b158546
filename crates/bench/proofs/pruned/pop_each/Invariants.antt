use Rattle.std.proofs.Common.{length}
use Rattle.bench.proofs.pruned.pop_each.Given as goal

abbrev pub decreases-loop-log : goal.decreases-loop-log
decreases-loop-log g l = length l.log.bits
