use Rattle.std.proofs.Common.{subst}
use Rattle.bitmap_session.specs.Machine.{Machine}
use Rattle.bitmap_session.specs.Laws.{HasRisingNumbers}
use Rattle.bitmap_session.proofs.session.Session.numbers_rise.Goals as goal

pub returns : goal.returns
returns g c = subst (λ (m : Machine). HasRisingNumbers m.state) c.self.view_is c.self.invariant.1
