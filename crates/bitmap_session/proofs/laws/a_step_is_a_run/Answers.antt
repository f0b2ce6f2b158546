use Rattle.bitmap_session.proofs.Runs.{step_is_run, steps_are_run}
use Rattle.bitmap_session.proofs.laws.a_step_is_a_run.Goals as goal

pub returns-clause-one : goal.returns-clause-one
returns-clause-one g c = step_is_run g.row.N

pub returns-clause-many : goal.returns-clause-many
returns-clause-many g c = steps_are_run g.row.N
