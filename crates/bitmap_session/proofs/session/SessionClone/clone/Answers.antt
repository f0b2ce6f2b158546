use Rattle.std.proofs.Common.{subst, sym}
use Rattle.bitmap_session.specs.Abstraction.{machine_of}
use Rattle.bitmap_session.specs.Laws.{HasRisingNumbers}
use Rattle.bitmap_session.proofs.session.SessionClone.clone.Goals as goal

pub invariant_of-result : goal.invariant_of-result
invariant_of-result g c =
    (c.self.invariant.0, subst (λ s. HasRisingNumbers (machine_of s).state) (sym c.in_ok-copied.ensures) c.self.invariant.1)
