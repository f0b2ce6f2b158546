use Rattle.std.proofs.Common.{arith}
use Rattle.historical_bitmap.proofs.bitmap.historical.commit_list.CommitList.add_index.Goals as goal

pub index_of-requires : goal.index_of-requires
index_of-requires g c = (
  omega arith,
  (omega (arith, c.self.invariant.width.fits), (c.self.invariant.width, (c.self.invariant.rise, rw (← c.self.view_is) at c.requires))),
)
