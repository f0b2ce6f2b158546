use Rattle.std.proofs.Common.{ap, subst, sym, ◌∙◌}
use Rattle.historical_bitmap.specs.Changes.{chunk_total}
use Rattle.historical_bitmap.specs.View.{pending_of}
use Rattle.authenticated_bitmap.specs.LeafDigests.{Authenticates, leaves_in, next_leaves}
use Rattle.authenticated_history.proofs.committing.commit_digests.Goals as goal

pub returns-in-Ok-commit-clause-leaves : goal.returns-in-Ok-commit-clause-leaves
returns-in-Ok-commit-clause-leaves g c count_is a =
    let H = g.D.Digest.digest_of c.args.hash.now in
    let n = g.row.N in
    let batch = c.args.prepared.now.batch in
    let there = c.into_dirty-stored.ensures.pending in
    ap (leaves_in (chunk_total n (pending_of n batch))) c.in-Ok-commit.ensures.current
    ∙ c.in-Ok.ensures.leaves count_is (subst (λ t. Authenticates H n batch.current t) (sym there) a)
    ∙ ap (λ t. next_leaves H n (leaves_in c.args.count t) (pending_of n batch)) there
