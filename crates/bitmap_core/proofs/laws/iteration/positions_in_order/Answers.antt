use Rattle.bitmap_core.proofs.Words.Runs.{scan_runs}
use Rattle.bitmap_core.proofs.laws.iteration.positions_in_order.Goals as goal

pub returns : goal.returns
returns c = scan_runs
