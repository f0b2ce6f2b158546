use Rattle.std.proofs.Common.{ap, sym}
use Rattle.bitmap_session.specs.Abstraction.{machine_of}
use Rattle.bitmap_session.proofs.Simulates.{step_from}
use Rattle.bitmap_session.proofs.session.step.Goals as goal

pub returns-in-Clean : goal.returns-in-Clean
returns-in-Clean g c = step_from _ _ _ _ _ _ (ap (λ s. machine_of s) (sym c.in-Clean.is)) c.step.ensures

pub returns-in-Dirty : goal.returns-in-Dirty
returns-in-Dirty g c = step_from _ _ _ _ _ _ (ap (λ s. machine_of s) (sym c.in-Dirty.is)) c.step-in-Dirty.ensures
