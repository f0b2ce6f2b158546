use Rattle.std.proofs.Common.{ap, ◌∙◌, refl, sym}
use Rattle.bitmap_session.specs.declared.command.Command.TheVariants.{Exists}
use Rattle.bitmap_session.specs.Replies.Refusal.{WrongMode}
use Rattle.bitmap_session.specs.Abstraction.{dirty, machine_of}
use Rattle.bitmap_session.proofs.Simulates.{step_in_place}
use Rattle.bitmap_session.proofs.Steps.{refused}
use Rattle.bitmap_session.proofs.session.Session.exists.Goals as goal

pub returns-in-Dirty : goal.returns-in-Dirty
returns-in-Dirty g c =
    let same = ap (λ s. machine_of s) (sym c.in-Dirty.is) ∙ c.self.view_is in
    step_in_place g.row.N _ c.args.self.now (Exists c.args.number) _ same (refused g.row.N (dirty g.row.N c.in-Dirty.field-0) (Exists c.args.number) WrongMode refl)
