use Rattle.std.proofs.Common.{arith}
use Rattle.chunk_map.proofs.Following.{enter_first, enter_linked, enter_past}
use Rattle.chunk_map.proofs.next.enter.Goals as goal

pub returns-then-digit-eq16-clause-first : goal.returns-then-digit-eq16-clause-first
returns-then-digit-eq16-clause-first c =
    enter_past c.args.node.now c.args.at c.first_digit.result c.next_digit-digit.result c.if-digit-eq16.true c.first_digit.ensures.same c.first_digit.ensures.below c.if-prefix-base.false c.next_digit-digit.ensures.least

pub returns-clause-first : goal.returns-clause-first
returns-clause-first c =
    enter_first c.args.node.now c.args.at c.first_digit.result c.next_digit-digit.result c.max.result (omega arith) (omega arith) c.requires.shift (omega arith) (omega arith) c.first_digit.ensures.same c.first_digit.ensures.below c.if-prefix-base.false c.next_digit-digit.ensures.least c.max.ensures

pub returns-clause-linked : goal.returns-clause-linked
returns-clause-linked c =
    enter_linked c.args.node.now c.args.at c.first_digit.result c.next_digit-digit.result c.max.result (omega arith) (omega arith) c.requires.shift (omega arith) (omega arith) c.first_digit.ensures.same c.first_digit.ensures.below c.if-prefix-base.false c.next_digit-digit.ensures.least (c.next_digit-digit.ensures.some (omega arith)) c.max.ensures
