use Rattle.std.proofs.Common.{ap}
use Rattle.authenticated_history.proofs.Kept.{current_same}
use Rattle.authenticated_history.proofs.clean.AuthenticatedBitMap.clear_history.Goals as goal

pub returns-clause-current : goal.returns-clause-current
returns-clause-current g c =
    rw (← c.self.view_is)
    (current_same g.row.N (record { hash = c.self.inside.hash; bits = c.self.inside.bits; digests = c.self.inside.digests }) (record { hash = c.self.inside.hash; bits = c.clear_history-2.new.self; digests = c.clear_history.new.self }) (ap (λ v. v.current) c.clear_history-2.ensures.value) (ap (λ v. v.current) c.clear_history.ensures.value))
