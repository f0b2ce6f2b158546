use Rattle.authenticated_history.proofs.Committed.{bits_more, both_follow, leaves_next, stored_more}
use Rattle.authenticated_history.proofs.Kept.{version_committed, versions_stay}
use Rattle.authenticated_history.proofs.dirty.DirtyAuthenticatedBitMap.commit.Goals as goal

pub invariant_of-result : goal.invariant_of-result
invariant_of-result g c =
    let given = rw (← c.self.view_is) at c.requires in
    let next = c.in-Ok-commit_digests.ensures in
    let bits = c.commit-bits.ensures in
    both_follow (g.D.Digest.digest_of c.self.inside.hash) g.row.N c.args.number c.self.inside.count c.self.inside.bits c.self.inside.digests c.in-Ok.prepared c.in-Ok.ensures.prepared given c.self.invariant c.commit-bits.result
    c.in-Ok-commit_digests.digests next.next bits.current bits.history next.history bits.last next.last

pub returns-in-Ok-commit_digests-clause-leaves : goal.returns-in-Ok-commit_digests-clause-leaves
returns-in-Ok-commit_digests-clause-leaves g c =
    let given = rw (← c.self.view_is) at c.requires in
    let next = c.in-Ok-commit_digests.ensures in
    let bits = c.commit-bits.ensures in
    rw (← c.self.view_is)
    (leaves_next (g.D.Digest.digest_of c.self.inside.hash) g.row.N c.args.number c.self.inside.count c.self.inside.bits c.self.inside.digests c.in-Ok.prepared c.in-Ok.ensures.prepared given c.self.invariant c.commit-bits.result
    c.in-Ok-commit_digests.digests next.next bits.current bits.history next.history c.len.ensures.width.positive next.leaves)

pub returns-in-Ok-commit_digests-clause-version : goal.returns-in-Ok-commit_digests-clause-version
returns-in-Ok-commit_digests-clause-version g c =
    let given = rw (← c.self.view_is) at c.requires in
    let next = c.in-Ok-commit_digests.ensures in
    let bits = c.commit-bits.ensures in
    let H = g.D.Digest.digest_of c.self.inside.hash in
    let in_bits =
    bits_more H g.row.N c.args.number c.self.inside.count c.self.inside.bits c.self.inside.digests c.in-Ok.prepared c.in-Ok.ensures.prepared given c.self.invariant c.commit-bits.result c.in-Ok-commit_digests.digests next.next bits.current
    bits.history next.history in
    let in_digests =
    stored_more H g.row.N c.args.number c.self.inside.count c.self.inside.bits c.self.inside.digests c.in-Ok.prepared c.in-Ok.ensures.prepared given c.self.invariant c.commit-bits.result c.in-Ok-commit_digests.digests next.next bits.current
    bits.history next.history in
    version_committed H g.row.N c.args.number (record { hash = c.self.inside.hash; bits = c.self.inside.bits; digests = c.self.inside.digests })
    (record { hash = c.self.inside.hash; bits = c.commit-bits.result; digests = c.in-Ok-commit_digests.digests }) given in_bits in_digests c.commits.ensures.ascending

pub returns-in-Ok-commit_digests-clause-versions : goal.returns-in-Ok-commit_digests-clause-versions
returns-in-Ok-commit_digests-clause-versions g c =
    let given = rw (← c.self.view_is) at c.requires in
    let next = c.in-Ok-commit_digests.ensures in
    let bits = c.commit-bits.ensures in
    let H = g.D.Digest.digest_of c.self.inside.hash in
    let in_bits =
    bits_more H g.row.N c.args.number c.self.inside.count c.self.inside.bits c.self.inside.digests c.in-Ok.prepared c.in-Ok.ensures.prepared given c.self.invariant c.commit-bits.result c.in-Ok-commit_digests.digests next.next bits.current
    bits.history next.history in
    let in_digests =
    stored_more H g.row.N c.args.number c.self.inside.count c.self.inside.bits c.self.inside.digests c.in-Ok.prepared c.in-Ok.ensures.prepared given c.self.invariant c.commit-bits.result c.in-Ok-commit_digests.digests next.next bits.current
    bits.history next.history in
    rw (← c.self.view_is)
    (versions_stay H g.row.N c.args.number (record { hash = c.self.inside.hash; bits = c.self.inside.bits; digests = c.self.inside.digests })
    (record { hash = c.self.inside.hash; bits = c.commit-bits.result; digests = c.in-Ok-commit_digests.digests }) given in_bits in_digests)
