use Rattle.historical_bitmap.proofs.History.Positions.{rise_rest}
use Rattle.historical_bitmap.proofs.bitmap.historical.commit_list.CommitList.pop_first.Goals as goal

pub invariant_of-self : goal.invariant_of-self
invariant_of-self g c = record {
  width = c.self.invariant.width;
  rise = rw c.pop_front.ensures.rest (rise_rest c.self.inside.commits.items c.self.invariant.rise);
  is_index = rw c.pop_front.ensures.rest c.unindex_first.ensures;
}

pub returns-clause-rise : goal.returns-clause-rise
returns-clause-rise g c = rw c.pop_front.ensures.rest (rise_rest c.self.inside.commits.items c.self.invariant.rise)
