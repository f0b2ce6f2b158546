use Rattle.std.proofs.Common.{sym}
use Rattle.commit_log.proofs.Checks.{decides_true, left_none, left_last, left_gone}
use Rattle.commit_log.proofs.check.are_left_out.Goals as goal

pub returns-then-total-from : goal.returns-then-total-from
returns-then-total-from g c = decides_true (left_none g.row.N c.args.current.now c.args.len c.args.from c.chunk_count-total.result c.len.ensures.width.positive c.requires c.chunk_count-total.ensures c.if-total-from.true)

pub returns-in-Some : goal.returns-in-Some
returns-in-Some g c = left_last g.row.N c.args.current.now c.args.len c.args.from c.chunk_count-total.result c.len.ensures.width.positive c.requires c.chunk_count-total.ensures c.in-Some.bytes c.is_zero_from.result c.if-total-from.false (sym c.in-Some.ensures) c.is_zero_from.ensures

pub returns-in-None : goal.returns-in-None
returns-in-None g c = left_gone g.row.N c.args.current.now c.args.len c.args.from c.chunk_count-total.result c.len.ensures.width.positive c.requires c.chunk_count-total.ensures c.if-total-from.false (sym c.in-None.ensures)
