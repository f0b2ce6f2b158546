use Rattle.historical_bitmap.proofs.History.Positions.{rise_take}
use Rattle.historical_bitmap.proofs.bitmap.historical.commit_list.CommitList.truncate.Goals as goal

pub invariant_of-self : goal.invariant_of-self
invariant_of-self g c = record {
  width = c.self.invariant.width;
  rise = rw c.truncate.ensures.items (rise_take c.args.position c.self.inside.commits.items c.self.invariant.rise);
  is_index = rw c.truncate.ensures.items c.unindex_from.ensures;
}
