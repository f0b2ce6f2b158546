use Rattle.std.proofs.Common.{sym}
use Rattle.historical_bitmap.proofs.EditedChunks.Appended.{all_sorted}
use Rattle.historical_bitmap.proofs.bitmap.historical.edited.EditedChunks.into_parts.Goals as goal

pub returns-clause-sorted : goal.returns-clause-sorted
returns-clause-sorted g c = rw (sym c.self.view_is) (all_sorted g.row.N c.self.inside.first c.self.inside.appended.items c.self.inside.stored.entries c.self.invariant c.order.ensures.sorted)
