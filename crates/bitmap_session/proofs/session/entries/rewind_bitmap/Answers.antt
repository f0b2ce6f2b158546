use Rattle.std.proofs.Common.{ap, subst, sym}
use Rattle.bitmap_session.specs.Abstraction.{clean}
use Rattle.bitmap_session.specs.Laws.{HasRisingNumbers}
use Rattle.bitmap_session.specs.Machine.{Machine}
use Rattle.bitmap_session.proofs.KeptNumbers.{latest_is_last_rises}
use Rattle.bitmap_session.proofs.WithEntries.{rewind_not_served, rewind_served}
use Rattle.bitmap_session.proofs.session.entries.rewind_bitmap.Goals as goal

pub returns-in-Ok-clause-served : goal.returns-in-Ok-clause-served
returns-in-Ok-clause-served g c =
    let done = c.in-Ok.ensures in
    rewind_served g.row.N c.args.number c.args.bitmap c.in-Ok.bitmap c.args.log.now c.rewind_logged.new.log done.written done.follows done.entry done.costs

pub returns-in-Ok-clause-rises : goal.returns-in-Ok-clause-rises
returns-in-Ok-clause-rises g c = λ rise. latest_is_last_rises _ c.commits.ensures.ascending c.last_number.ensures.latest

pub returns-in-Err-clause-served : goal.returns-in-Err-clause-served
returns-in-Err-clause-served g c =
    rw (c.from.ensures, c.in-Err.ensures.refused, c.in-Err.ensures.unchanged, c.in-Err.ensures.nothing) (rewind_not_served g.row.N c.args.number c.args.bitmap c.args.log.now)

pub returns-in-Err-clause-rises : goal.returns-in-Err-clause-rises
returns-in-Err-clause-rises g c = λ rise.
    subst (λ (m : Machine). HasRisingNumbers m.state) (ap (λ b. clean g.row.N b) (sym c.in-Err.ensures.unchanged)) rise
