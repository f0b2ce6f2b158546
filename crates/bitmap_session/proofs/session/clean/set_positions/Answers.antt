use Rattle.std.proofs.lemmas.Iterator.{items_from_collect}
use Rattle.bitmap_core.proofs.Words.Runs.{positions_from}
use Rattle.bitmap_session.proofs.session.clean.set_positions.Goals as goal

pub returns : goal.returns
returns g c = items_from_collect _ c.collect.ensures.ran (positions_from _ c.ones_iter_range.ensures.positions)
