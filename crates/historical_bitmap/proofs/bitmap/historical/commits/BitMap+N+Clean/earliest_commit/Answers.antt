use Rattle.std.proofs.Common.{sym, ◌∙◌}
use Rattle.historical_bitmap.proofs.History.KeptCommits.{same_number}
use Rattle.historical_bitmap.proofs.bitmap.historical.commits.BitMap+N+Clean.earliest_commit.Goals as goal

pub returns : goal.returns
returns g c = rw (← c.self.view_is) (c.first_number.ensures ∙ sym (same_number g.row.N 0 c.self.inside.commits c.self.inside.current))
