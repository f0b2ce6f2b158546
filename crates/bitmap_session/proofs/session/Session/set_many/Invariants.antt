use Rattle.std.proofs.Common.{take}
use Rattle.bitmap_session.specs.Edits.{set_steps}
use Rattle.bitmap_session.specs.Laws.{StepsOn}
use Rattle.bitmap_session.proofs.session.Session.set_many.Given as goal

abbrev pub invariant-loop-i : goal.invariant-loop-i
invariant-loop-i g l = StepsOn g.row.N l.fn.self (set_steps g.row.N (take l.i l.positions) l.value) l.self
