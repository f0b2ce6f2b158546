use Rattle.std.proofs.Common.{sym, ◌∙◌}
use Rattle.historical_bitmap.proofs.History.KeptCommits.{same_latest}
use Rattle.historical_bitmap.proofs.bitmap.historical.commits.BitMap+N+Clean.latest_commit.Goals as goal

pub returns : goal.returns
returns g c = rw (← c.self.view_is) (c.last_number.ensures ∙ sym (same_latest g.row.N c.self.inside.commits c.self.inside.current))
