use Rattle.authenticated_history.proofs.Kept.{versions_up_to}
use Rattle.authenticated_history.proofs.Versions.{follows_rewound}
use Rattle.authenticated_history.proofs.clean.AuthenticatedBitMap.rewind_to.Goals as goal

pub invariant_of-result : goal.invariant_of-result
invariant_of-result g c =
    let digests = c.in-Ok-rewind_to.ensures in
    let bits = c.in-Ok-rewind_to-2.ensures in
    follows_rewound (g.D.Digest.digest_of c.self.inside.hash) g.row.N c.args.number c.self.inside.bits c.self.inside.digests c.in-Ok-rewind_to-2.bits c.in-Ok-rewind_to.digests c.self.invariant
    bits.current (rw c.in-Ok.ensures.cases at digests.current) bits.history (rw c.in-Ok.ensures.cases at digests.history) bits.last digests.last

pub returns-in-Ok-rewind_to-2-clause-versions : goal.returns-in-Ok-rewind_to-2-clause-versions
returns-in-Ok-rewind_to-2-clause-versions g c =
    rw (← c.self.view_is)
    (versions_up_to g.row.N c.args.number (record { hash = c.self.inside.hash; bits = c.self.inside.bits; digests = c.self.inside.digests }) (record { hash = c.self.inside.hash; bits = c.in-Ok-rewind_to-2.bits; digests = c.in-Ok-rewind_to.digests })
    c.in-Ok-rewind_to-2.ensures.history (rw c.in-Ok.ensures.cases at c.in-Ok-rewind_to.ensures.history))
