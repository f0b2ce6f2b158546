use Rattle.std.proofs.Common.{ap, ◌∙◌, refl, sym}
use Rattle.bitmap_session.specs.declared.command.Command.TheVariants.{DropBefore}
use Rattle.bitmap_session.specs.Replies.Refusal.{WrongMode}
use Rattle.bitmap_session.specs.Abstraction.{dirty, machine_of, value_of}
use Rattle.bitmap_session.proofs.KeptNumbers.{still_rises}
use Rattle.bitmap_session.proofs.Simulates.{step_between}
use Rattle.bitmap_session.proofs.Steps.{refused}
use Rattle.bitmap_session.proofs.session.Session.drop_before.Goals as goal
use Rattle.bitmap_session.proofs.session.Session.drop_before.Goals.{in-Dirty, in-Clean}

pub returns : goal.returns
returns g c = elim c.match-self.branch [
  | in-Clean w ↦ step_between g.row.N _ _ (DropBefore c.args.number) _ _ _ _ (ap (λ s. machine_of s) (sym w.in-Clean.is) ∙ c.self.view_is) (ap (λ r. value_of r) w.result-is) (ap (λ i. machine_of i.state) w.self-inside-is) w.drop_before.ensures
  | in-Dirty w ↦ step_between g.row.N _ _ (DropBefore c.args.number) _ _ _ _ (ap (λ s. machine_of s) (sym w.in-Dirty.is) ∙ c.self.view_is) (ap (λ r. value_of r) w.result-is) (ap (λ i. machine_of i.state) w.self-inside-is ∙ ap (λ s. machine_of s) w.in-Dirty.is) (refused g.row.N (dirty g.row.N w.in-Dirty.field-0) (DropBefore c.args.number) WrongMode refl)
]

pub invariant_of-self : goal.invariant_of-self
invariant_of-self g c =
    (c.self.invariant.0, still_rises g.row.N _ c.args.self.now _ (DropBefore c.args.number) _ c.self.view_is c.self.invariant.1 (returns g c))
