use Rattle.std.proofs.Common.{ap, sym, subst, ◌∙◌}
use Rattle.bitmap_session.specs.Abstraction.{machine_of}
use Rattle.bitmap_session.specs.Machine.{Machine}
use Rattle.bitmap_session.specs.Saved.{KeepsStep}
use Rattle.bitmap_session.proofs.session.Session.delta.Goals as goal

pub returns-in-Err-clause-step : goal.returns-in-Err-clause-step
returns-in-Err-clause-step g c =
    let same = ap (λ s. machine_of s) (sym c.in-Clean.is) ∙ c.self.view_is in
    subst (λ (m : Machine). KeepsStep g.row.N m c.args.from c.args.to) same (λ outside old new. c.in-Err.ensures.step old new)
