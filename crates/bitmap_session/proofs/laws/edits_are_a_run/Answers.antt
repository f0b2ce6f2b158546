use Rattle.bitmap_session.proofs.Edits.Commands.{edits_are_run}
use Rattle.bitmap_session.proofs.laws.edits_are_a_run.Goals as goal

pub returns : goal.returns
returns g c = edits_are_run g.row.N
