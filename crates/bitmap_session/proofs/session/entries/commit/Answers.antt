use Rattle.std.proofs.Common.{ap, refl, subst, sym}
use Rattle.bitmap_session.specs.Abstraction.{clean, machine_of, value_of}
use Rattle.bitmap_session.specs.declared.command.Command.TheVariants.{Commit}
use Rattle.bitmap_session.specs.Laws.{HasRisingNumbers}
use Rattle.bitmap_session.specs.Logged.{Serves}
use Rattle.bitmap_session.specs.Machine.{Machine}
use Rattle.bitmap_session.specs.Replies.ReplyValue.{Refused}
use Rattle.bitmap_session.specs.Replies.Refusal.{WrongMode}
use Rattle.bitmap_session.proofs.WithEntries.{serves_refused}
use Rattle.bitmap_session.proofs.Steps.{refused}
use Rattle.bitmap_session.proofs.session.entries.commit.Goals as goal

pub returns-in-Dirty-clause-served : goal.returns-in-Dirty-clause-served
returns-in-Dirty-clause-served g c =
    let r = c.commit_batch.result in
    subst (λ (m : Machine). Serves g.row.N (record { machine = m; log = c.args.log.now }) (Commit c.args.number) (value_of r.0) (record { machine = machine_of r.1; log = c.commit_batch.new.log })) (ap (λ s. machine_of s) (sym c.in-Dirty.is)) c.commit_batch.ensures.served

pub returns-in-Dirty-clause-rises : goal.returns-in-Dirty-clause-rises
returns-in-Dirty-clause-rises g c =
    let r = c.commit_batch.result in
    subst (λ (m : Machine). HasRisingNumbers m.state → HasRisingNumbers (machine_of r.1).state) (ap (λ s. machine_of s) (sym c.in-Dirty.is)) c.commit_batch.ensures.rises

pub returns-in-Clean-clause-served : goal.returns-in-Clean-clause-served
returns-in-Clean-clause-served g c =
    let m = clean g.row.N c.in-Clean.bitmap in
    let same = ap (λ s. machine_of s) (sym c.in-Clean.is) in
    subst (λ (k : Machine). Serves g.row.N (record { machine = k; log = c.args.log.now }) (Commit c.args.number) (Refused WrongMode) (record { machine = m; log = c.args.log.now })) same
    (serves_refused g.row.N m c.args.log.now (Commit c.args.number) WrongMode (refused g.row.N m (Commit c.args.number) WrongMode refl))

pub returns-in-Clean-clause-rises : goal.returns-in-Clean-clause-rises
returns-in-Clean-clause-rises g c = λ rise.
    subst (λ (m : Machine). HasRisingNumbers m.state) (ap (λ s. machine_of s) c.in-Clean.is) rise
