use Rattle.std.proofs.Common.{sym, ◌∙◌}
use Rattle.commit_log.proofs.Bases.{state_ends, state_long}
use Rattle.commit_log.proofs.base.unallocated.Goals as goal

pub returns-then-is_followed : goal.returns-then-is_followed
returns-then-is_followed g c = λ range none. state_long g.row.N range c.args.bytes.now none (sym c.is_followed.ensures ∙ c.if-is_followed.true)

pub returns : goal.returns
returns g c = λ range none. state_ends g.row.N range c.args.bytes.now none (sym c.is_followed.ensures ∙ c.if-is_followed.false)
