use Rattle.std.proofs.Common.{◌≡◌, ◌++◌, length, arith, ap, ◌∙◌}
use Rattle.authenticated_bitmap.specs.Range.{siblings_below}
use Rattle.authenticated_bitmap.proofs.Complete.{below_power}
use Rattle.authenticated_bitmap.proofs.Ranges.{siblings_same}
use Rattle.authenticated_bitmap.proofs.RangeLengths.{siblings_few}
use Rattle.authenticated_bitmap.proofs.range.prove_range.Goals as goal

pub returns-clause-value : goal.returns-clause-value
returns-clause-value g c =
    let H = g.D.Digest.digest_of c.args.hash.now in
    let digests = c.args.digests.now in
    c.in_ok-push_siblings.ensures ∙ ap (λ xs. xs ++ siblings_below H 64 c.args.first c.args.count digests) c.new-siblings.ensures.items
    ∙ siblings_same H 64 (length digests) c.args.first c.args.count digests (omega arith) (below_power (length digests))

pub returns-clause-few : goal.returns-clause-few
returns-clause-few g c =
    let H = g.D.Digest.digest_of c.args.hash.now in
    let digests = c.args.digests.now in
    let items : c.push_siblings.new.siblings.items ≡ siblings_below H 64 c.args.first c.args.count digests =
    c.in_ok-push_siblings.ensures ∙ ap (λ xs. xs ++ siblings_below H 64 c.args.first c.args.count digests) c.new-siblings.ensures.items in
    omega (arith, ap length items, siblings_few H 64 c.args.first c.args.count digests c.requires.some)
