use Rattle.std.proofs.Common.{arith}
use Rattle.historical_bitmap.proofs.Index.Rows.{next_later, none_later}
use Rattle.historical_bitmap.proofs.bitmap.historical.kept_row.KeptRow.next_past.Goals as goal

pub returns-then-past-len : goal.returns-then-past-len
returns-then-past-len g c =
    rw (← c.self.view_is) (none_later c.self.inside.bytes.items c.search_past-past.result c.args.number c.search_past-past.ensures.earlier (omega arith))

pub returns : goal.returns
returns g c =
    rw (← c.self.view_is)
    (next_later c.self.inside.bytes.items c.search_past-past.result c.args.number c.search_past-past.ensures.earlier c.search_past-past.ensures.later c.index-kept.result.now (omega arith) c.index-kept.ensures c.self.invariant.rise)
