use Rattle.std.proofs.Common.{ap, ◌∙◌, refl, sym}
use Rattle.bitmap_session.specs.declared.command.Command.TheVariants.{Get}
use Rattle.bitmap_session.specs.Abstraction.{dirty, machine_of, value_of}
use Rattle.bitmap_session.proofs.Simulates.{step_between}
use Rattle.bitmap_session.proofs.session.Session.get.Goals as goal

pub returns-in-Dirty : goal.returns-in-Dirty
returns-in-Dirty g c =
    let before = dirty g.row.N c.in-Dirty.bitmap in
    let same = ap (λ s. machine_of s) (sym c.in-Dirty.is) ∙ c.self.view_is in
    let reply = value_of c.get-in-Dirty.result in
    step_between g.row.N before c.args.self.now (Get c.args.position) reply reply before c.args.self.now same refl (sym same) c.get-in-Dirty.ensures
