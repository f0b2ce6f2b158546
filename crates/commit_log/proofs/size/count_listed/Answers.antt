use Rattle.std.proofs.Common.{arith}
use Rattle.commit_log.proofs.Sizes.{listed_le}
use Rattle.commit_log.proofs.size.count_listed.Goals as goal

pub loop-chunk-init : goal.loop-chunk-init
loop-chunk-init g c = (omega arith, omega (arith, listed_le g.row.N c.args.newer.now c.args.changes, c.requires))
