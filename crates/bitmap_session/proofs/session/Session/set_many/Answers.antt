use Rattle.std.proofs.Common.{get_or, refl}
use Rattle.bitmap_session.specs.declared.command.Command.TheVariants.{Set}
use Rattle.bitmap_session.specs.Abstraction.{reason}
use Rattle.bitmap_session.specs.Replies.ReplyValue.{Refused}
use Rattle.bitmap_session.proofs.Edits.Positions.{all_set, next_set, one_more, set_done}
use Rattle.bitmap_session.proofs.session.Session.set_many.Goals as goal

pub loop-i-init : goal.loop-i-init
loop-i-init g c = refl

pub loop-i-preserved : goal.loop-i-preserved
loop-i-preserved g c =
    let positions = c.args.positions.now in
    let position = get_or positions c.loop-i.i 0 in
    let step = set_done g.row.N c.loop-i.self c.set.new.self position c.args.value c.set.result c.in_default.not-Refused c.set.ensures in
    next_set g.row.N c.args.self.now c.loop-i.self c.set.new.self positions c.args.value c.loop-i.i 0 c.loop-i-test.true c.loop-i.invariant step

pub returns-in-Refused-clause-stopped : goal.returns-in-Refused-clause-stopped
returns-in-Refused-clause-stopped g c =
    let positions = c.args.positions.now in
    one_more g.row.N c.args.self.now c.loop-i.self c.set.new.self _ (Set (get_or positions c.loop-i.i 0) c.args.value) (Refused (reason c.in-Refused.refusal)) c.loop-i.invariant c.in-Refused.ensures

pub returns-clause-all : goal.returns-clause-all
returns-clause-all g c = all_set g.row.N c.args.self.now c.loop-i.self c.args.positions.now c.args.value c.loop-i.i c.loop-i-test.false c.loop-i.invariant
