use Rattle.std.proofs.Common.{ap, ◌∙◌}
use Rattle.bitmap_session.specs.Abstraction.{machine_of}
use Rattle.bitmap_session.proofs.KeptNumbers.{still_rises}
use Rattle.bitmap_session.proofs.Simulates.{step_from}
use Rattle.bitmap_session.proofs.session.Session.replace_state.Goals as goal

pub returns : goal.returns
returns g c = step_from _ _ _ _ _ _ (ap (λ s. machine_of s) c.replace-state.ensures.value ∙ c.self.view_is) c.step-reply.ensures

pub invariant_of-self : goal.invariant_of-self
invariant_of-self g c =
    (c.self.invariant.0, still_rises g.row.N _ c.args.self.now _ c.args.command.now _ c.self.view_is c.self.invariant.1 (returns g c))
