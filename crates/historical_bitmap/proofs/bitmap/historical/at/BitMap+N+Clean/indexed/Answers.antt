use Rattle.std.proofs.Common.{arith}
use Rattle.historical_bitmap.proofs.History.InPlace.{entries_rise}
use Rattle.historical_bitmap.proofs.bitmap.historical.at.BitMap+N+Clean.indexed.Goals as goal

pub add_index-requires : goal.add_index-requires
add_index-requires g c = (omega arith, entries_rise g.row.N c.self.inside.commits c.self.inside.current c.self.invariant.1.undo)
