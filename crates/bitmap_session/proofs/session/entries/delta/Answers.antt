use Rattle.std.proofs.Common.{ap, subst, sym}
use Rattle.bitmap_session.specs.Abstraction.{machine_of}
use Rattle.bitmap_session.specs.Logged.{LogsDelta}
use Rattle.bitmap_session.specs.Machine.{Machine}
use Rattle.bitmap_session.proofs.WithEntries.{none_logged_delta}
use Rattle.bitmap_session.proofs.session.entries.delta.Goals as goal

pub returns-in-Clean : goal.returns-in-Clean
returns-in-Clean g c =
    let r = c.delta_outside.result in
    subst (λ (m : Machine). LogsDelta g.row.N c.args.bytes.now (record { machine = m; log = c.args.log.now }) r.0 (record { machine = machine_of r.1; log = c.delta_outside.new.log })) (ap (λ s. machine_of s) (sym c.in-Clean.is)) c.delta_outside.ensures

pub returns-in-Dirty : goal.returns-in-Dirty
returns-in-Dirty g c = none_logged_delta g.row.N c.args.bytes.now c.in-Dirty.batch c.args.log.now _ (ap (λ s. machine_of s) (sym c.in-Dirty.is))
