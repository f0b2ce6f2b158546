use Rattle.commit_log.proofs.Bases.{state_named}
use Rattle.commit_log.proofs.base.unread.Goals as goal

pub returns-in_default : goal.returns-in_default
returns-in_default g c = λ range is. state_named g.row.N range c.args.error c.args.bytes.now c.in_default.not-OutOfMemory is
