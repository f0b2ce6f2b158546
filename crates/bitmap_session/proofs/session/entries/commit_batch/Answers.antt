use Rattle.std.proofs.Common.{ap, subst, sym}
use Rattle.bitmap_session.specs.Abstraction.{dirty}
use Rattle.bitmap_session.specs.Laws.{HasRisingNumbers}
use Rattle.bitmap_session.specs.Machine.{Machine}
use Rattle.bitmap_session.proofs.KeptNumbers.{latest_is_last_rises}
use Rattle.bitmap_session.proofs.WithEntries.{commit_not_served, commit_served}
use Rattle.bitmap_session.proofs.session.entries.commit_batch.Goals as goal

pub returns-in-Ok-clause-served : goal.returns-in-Ok-clause-served
returns-in-Ok-clause-served g c =
    let done = c.in-Ok.ensures in
    commit_served g.row.N c.args.number c.args.batch c.in-Ok.bitmap c.args.log.now c.commit_logged.new.log done.written done.follows done.entry done.current done.history done.costs

pub returns-in-Ok-clause-rises : goal.returns-in-Ok-clause-rises
returns-in-Ok-clause-rises g c = λ rise. latest_is_last_rises _ c.commits.ensures.ascending c.last_number.ensures.latest

pub returns-in-Err-clause-served : goal.returns-in-Err-clause-served
returns-in-Err-clause-served g c =
    rw (c.from.ensures, c.in-Err.ensures.refused, c.in-Err.ensures.unchanged, c.in-Err.ensures.nothing) (commit_not_served g.row.N c.args.number c.args.batch c.args.log.now)

pub returns-in-Err-clause-rises : goal.returns-in-Err-clause-rises
returns-in-Err-clause-rises g c = λ rise.
    subst (λ (m : Machine). HasRisingNumbers m.state) (ap (λ b. dirty g.row.N b) (sym c.in-Err.ensures.unchanged)) rise
