use Rattle.std.specs.Map.{keys_of}
use Rattle.historical_bitmap.proofs.History.KeptCommits.{last_unreserved, latest_is_last}
use Rattle.historical_bitmap.proofs.bitmap.historical.commits.BitMap+N+Clean.last_number.Goals as goal

pub returns-clause-latest : goal.returns-clause-latest
returns-clause-latest g c = rw (← c.self.view_is) (latest_is_last g.row.N c.self.inside.current c.self.inside.commits c.self.inside.last c.self.invariant.1)

pub returns-clause-unreserved : goal.returns-clause-unreserved
returns-clause-unreserved g c = rw (← c.self.view_is) (last_unreserved (keys_of c.self.inside.commits) c.self.inside.last c.self.invariant.1.numbers)
