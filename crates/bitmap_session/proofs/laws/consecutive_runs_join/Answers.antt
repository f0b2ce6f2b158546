use Rattle.bitmap_session.proofs.Runs.{runs_join}
use Rattle.bitmap_session.proofs.laws.consecutive_runs_join.Goals as goal

pub returns : goal.returns
returns g c = runs_join g.row.N
