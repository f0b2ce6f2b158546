use Rattle.bitmap_session.proofs.Steps.{wrong_mode_clean}
use Rattle.bitmap_session.proofs.session.clean.step.Goals as goal

pub returns-in-Start : goal.returns-in-Start
returns-in-Start g c = rw c.in-Start.is c.start.ensures

pub returns-in-Begin : goal.returns-in-Begin
returns-in-Begin g c = rw c.in-Begin.is c.begin.ensures

pub returns-in-Rewind : goal.returns-in-Rewind
returns-in-Rewind g c = rw c.in-Rewind.is c.rewind.ensures

pub returns-in_default : goal.returns-in_default
returns-in_default g c =
    let d = c.in_default in
    wrong_mode_clean g.row.N c.args.bitmap c.args.command.now c.requires.replaces d.not-Start d.not-Begin d.not-Rewind
