use Rattle.std.proofs.Common.{arith, sym}
use mathlib.Core.Logic.{inl}
use Rattle.historical_bitmap.proofs.Index.Rows.{has_first, none_has}
use Rattle.historical_bitmap.proofs.bitmap.historical.kept_row.KeptRow.has_between.Goals as goal

pub returns-then-past-len : goal.returns-then-past-len
returns-then-past-len g c =
    rw (← c.self.view_is) (sym (none_has c.args.from c.args.to c.self.inside.bytes.items (λ j l. inl (c.search_past-past.ensures.earlier j (omega (arith, l))))))

pub returns : goal.returns
returns g c =
    rw (← c.self.view_is)
    (has_first c.args.from c.args.to c.self.inside.bytes.items c.search_past-past.result c.index-next.result.now c.search_past-past.ensures.earlier c.search_past-past.ensures.later (omega arith) c.index-next.ensures c.self.invariant.rise)
