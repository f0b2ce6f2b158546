use Rattle.std.proofs.Common.{ap, subst, sym}
use Rattle.bitmap_session.specs.Abstraction.{machine_of}
use Rattle.bitmap_session.specs.Machine.{Machine}
use Rattle.bitmap_session.specs.Saved.{AppliesDelta}
use Rattle.bitmap_session.proofs.Saved.{none_applied}
use Rattle.bitmap_session.proofs.session.saved.applied.Goals as goal

pub returns-in-Clean : goal.returns-in-Clean
returns-in-Clean g c =
    let r = c.applied_outside.result in
    subst (λ (m : Machine). AppliesDelta g.row.N c.args.bytes.now m r.0 (machine_of r.1)) (ap (λ s. machine_of s) (sym c.in-Clean.is)) c.applied_outside.ensures

pub returns-in-Dirty : goal.returns-in-Dirty
returns-in-Dirty g c = none_applied g.row.N c.args.bytes.now c.in-Dirty.bitmap _ (ap (λ s. machine_of s) (sym c.in-Dirty.is))
