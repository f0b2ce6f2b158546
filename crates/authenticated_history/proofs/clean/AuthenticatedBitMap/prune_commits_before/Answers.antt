use Rattle.std.proofs.Common.{ap}
use Rattle.authenticated_history.proofs.Kept.{current_same, versions_from}
use Rattle.authenticated_history.proofs.Versions.{follows_dropped}
use Rattle.authenticated_history.proofs.clean.AuthenticatedBitMap.prune_commits_before.Goals as goal

pub invariant_of-self : goal.invariant_of-self
invariant_of-self g c =
    let digests = c.prune_commits_before.ensures in
    let bits = c.prune_commits_before-2.ensures in
    follows_dropped (g.D.Digest.digest_of c.self.inside.hash) g.row.N c.args.number c.self.inside.bits c.self.inside.digests c.prune_commits_before-2.new.self c.prune_commits_before.new.self c.self.invariant
    (ap (λ v. v.current) bits.value) (ap (λ v. v.current) digests.value) bits.history digests.history (ap (λ v. v.last) bits.value) (ap (λ v. v.last) digests.value)

pub returns-clause-versions : goal.returns-clause-versions
returns-clause-versions g c =
    rw (← c.self.view_is)
    (versions_from g.row.N c.args.number (record { hash = c.self.inside.hash; bits = c.self.inside.bits; digests = c.self.inside.digests }) (record { hash = c.self.inside.hash; bits = c.prune_commits_before-2.new.self; digests = c.prune_commits_before.new.self })
    c.prune_commits_before-2.ensures.history c.prune_commits_before.ensures.history)

pub returns-clause-current : goal.returns-clause-current
returns-clause-current g c =
    rw (← c.self.view_is)
    (current_same g.row.N (record { hash = c.self.inside.hash; bits = c.self.inside.bits; digests = c.self.inside.digests }) (record { hash = c.self.inside.hash; bits = c.prune_commits_before-2.new.self; digests = c.prune_commits_before.new.self }) (ap (λ v. v.current) c.prune_commits_before-2.ensures.value) (ap (λ v. v.current) c.prune_commits_before.ensures.value))
