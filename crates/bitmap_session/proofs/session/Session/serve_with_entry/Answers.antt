use Rattle.std.proofs.Common.{refl}
use Rattle.bitmap_session.specs.Abstraction.{value_of}
use Rattle.bitmap_session.proofs.WithEntries.{drop_served_as, keeps_all, serves_unlogged}
use Rattle.bitmap_session.proofs.session.Session.serve_with_entry.Goals as goal

pub returns-in-Start-clause-error : goal.returns-in-Start-clause-error
returns-in-Start-clause-error g c = (_, c.in-Start.is)

pub returns-in-Start-clause-start : goal.returns-in-Start-clause-start
returns-in-Start-clause-start g c = λ chunks is. refl

pub returns-in-Commit-clause-served : goal.returns-in-Commit-clause-served
returns-in-Commit-clause-served g c = rw c.in-Commit.is c.commit_with_entry.ensures

pub returns-in-Rewind-clause-served : goal.returns-in-Rewind-clause-served
returns-in-Rewind-clause-served g c = rw c.in-Rewind.is c.rewind_with_entry.ensures

pub returns-in-Ok-clause-served : goal.returns-in-Ok-clause-served
returns-in-Ok-clause-served g c =
    drop_served_as g.row.N c.in-DropBefore.number c.args.self.now c.serve.new.self c.args.log.now c.push_drop.new.log (value_of c.serve.result) c.args.command.now c.in-DropBefore.is (c.in-Ok.ensures.log, c.in-Ok.ensures.follows) c.serve.ensures

pub returns-in_default-clause-served : goal.returns-in_default-clause-served
returns-in_default-clause-served g c =
    let d = c.in_default in
    serves_unlogged g.row.N c.args.self.now _ c.args.log.now c.args.command.now (value_of c.serve-in_default.result) (keeps_all g.row.N c.args.self.now.state c.args.command.now d.not-Start d.not-Commit d.not-Rewind d.not-DropBefore d.not-Clear) c.serve-in_default.ensures
