use Rattle.std.proofs.Common.{take}
use Rattle.bitmap_c.specs.Calls.{Pushed}
use Rattle.bitmap_c.proofs.many.push_each.Given as goal

abbrev pub invariant-loop-i : goal.invariant-loop-i
invariant-loop-i g l = record { pushed : Pushed g.row.N l.initial.session (take l.i l.bytes) l.session }
