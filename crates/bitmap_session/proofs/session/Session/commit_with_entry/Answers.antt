use Rattle.std.proofs.Common.{ap, subst, sym, ◌∙◌}
use Rattle.bitmap_session.specs.Abstraction.{machine_of, value_of}
use Rattle.bitmap_session.specs.declared.command.Command.TheVariants.{Commit}
use Rattle.bitmap_session.specs.Laws.{HasRisingNumbers}
use Rattle.bitmap_session.specs.Logged.{Serves}
use Rattle.bitmap_session.specs.Machine.{Machine}
use Rattle.bitmap_session.proofs.session.Session.commit_with_entry.Goals as goal

pub returns : goal.returns
returns g c =
    let same = ap (λ s. machine_of s) c.replace-state.ensures.value ∙ c.self.view_is in
    let r = c.commit-reply.result in
    subst (λ (m : Machine). Serves g.row.N (record { machine = m; log = c.args.log.now }) (Commit c.args.number) (value_of r.0) (record { machine = machine_of r.1; log = c.commit-reply.new.log })) same c.commit-reply.ensures.served

pub invariant_of-self : goal.invariant_of-self
invariant_of-self g c = (
  c.self.invariant.0,
  c.commit-reply.ensures.rises (subst (λ s. HasRisingNumbers (machine_of s).state) (sym c.replace-state.ensures.value) c.self.invariant.1),
)
