use Rattle.bitmap_session.proofs.Steps.{wrong_mode_dirty}
use Rattle.bitmap_session.proofs.session.dirty.step.Goals as goal

pub returns-in-Commit : goal.returns-in-Commit
returns-in-Commit g c = rw c.in-Commit.is c.commit.ensures

pub returns-in-Abort : goal.returns-in-Abort
returns-in-Abort g c = rw c.in-Abort.is c.abort.ensures

pub returns-in_default : goal.returns-in_default
returns-in_default g c =
    wrong_mode_dirty g.row.N c.args.bitmap c.args.command.now c.requires.replaces c.in_default.not-Commit c.in_default.not-Abort
