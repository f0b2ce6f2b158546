use Rattle.std.proofs.Common.{refl}
use Rattle.bitmap_session.specs.Machine.{first_machine}
use Rattle.bitmap_session.proofs.KeptNumbers.{latest_is_greatest, no_commits_rise, numbers_rise, numbers_rise_on}
use Rattle.bitmap_session.proofs.laws.kept_numbers_rise.Goals as goal

pub returns-clause-first : goal.returns-clause-first
returns-clause-first g c = no_commits_rise first_machine.state refl

pub returns-clause-none : goal.returns-clause-none
returns-clause-none g c = no_commits_rise

pub returns-clause-run : goal.returns-clause-run
returns-clause-run g c = numbers_rise g.row.N

pub returns-clause-calls : goal.returns-clause-calls
returns-clause-calls g c = numbers_rise_on g.row.N

pub returns-clause-greatest : goal.returns-clause-greatest
returns-clause-greatest g c = latest_is_greatest
