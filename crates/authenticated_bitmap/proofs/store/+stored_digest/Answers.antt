use Rattle.std.proofs.Common.{◌+◌, ◌*◌, ◌-◌, ◌^◌, ◌<◌, ◌≤◌, [], length, get_or, ap, arith, rules, ◌∙◌}
use Rattle.std.proofs.Math.Pow.{pow_mono}
use Rattle.authenticated_bitmap.specs.Stored.{leaves_under, stored}
use Rattle.authenticated_bitmap.specs.Tree.{node_hash, subtree_hash}
use Rattle.authenticated_bitmap.proofs.FromStored.{place_within, whole, code_one_part, code_two_parts, level_down, level_positive}
use Rattle.authenticated_bitmap.proofs.store.+stored_digest.Goals as goal

pub node-requires : goal.node-requires
node-requires g t c =
    let sizes = ap (λ x. c.args.index * x) c.size_of.ensures in
    let complete : (c.args.index + 1) * 2 ^ c.args.level ≤ c.args.n = omega (arith, sizes, c.size_of-2.ensures, c.if-index-size_of.true) in
    omega (arith, place_within c.args.n c.args.level c.args.index complete, c.node_position.ensures, c.requires.count)

pub returns-then-index-size_of : goal.returns-then-index-size_of
returns-then-index-size_of g t c digests l s =
    let H = g.D.Digest.digest_of c.args.hash.now in
    let sizes = ap (λ x. c.args.index * x) c.size_of.ensures in
    let complete : (c.args.index + 1) * 2 ^ c.args.level ≤ length digests = omega (arith, sizes, c.size_of-2.ensures, c.if-index-size_of.true, l) in
    c.node.ensures ∙ ap (λ xs. get_or xs c.node_position.result []) s ∙ ap (λ p. get_or (stored H digests) p []) c.node_position.ensures ∙ whole H digests c.args.level c.args.index complete

pub stored_digest-left-requires : goal.stored_digest-left-requires
stored_digest-left-requires g t c κs within =
    let sizes = ap (λ x. c.args.index * x) c.size_of.ensures in
    let p = level_positive c.args.level c.args.index c.args.n c.requires.some (omega (arith, sizes, c.size_of-2.ensures, c.if-index-size_of.false)) in
    let some : 2 * c.args.index * 2 ^ (c.args.level - 1) < c.args.n = omega (arith, level_down c.args.level c.args.index p, c.requires.some) in
    search (rules, some, p)

pub overflow_mul-index-4 : goal.overflow_mul-index-4
overflow_mul-index-4 g t c =
    let sizes = ap (λ x. c.args.index * x) c.size_of.ensures in
    let p = level_positive c.args.level c.args.index c.args.n c.requires.some (omega (arith, sizes, c.size_of-2.ensures, c.if-index-size_of.false)) in
    let small : 2 ^ (c.args.level - 1) ≤ 2 ^ 61 = pow_mono {j = 61} (omega arith) in
    let half = ap (λ x. (2 * c.args.index + 1) * x) c.size_of-3.ensures in
    omega (arith, level_down c.args.level c.args.index p, c.requires.some, c.requires.few, small, half)

pub returns-then-index-size_of-2 : goal.returns-then-index-size_of-2
returns-then-index-size_of-2 g t c digests l s =
    let H = g.D.Digest.digest_of c.args.hash.now in
    let sizes = ap (λ x. c.args.index * x) c.size_of.ensures in
    let p = level_positive c.args.level c.args.index c.args.n c.requires.some (omega (arith, sizes, c.size_of-2.ensures, c.if-index-size_of.false)) in
    let half = ap (λ x. (2 * c.args.index + 1) * x) c.size_of-3.ensures in
    let few : length digests ≤ (2 * c.args.index + 1) * 2 ^ (c.args.level - 1) = omega (arith, half, c.if-index-size_of-2.true, l) in
    c.stored_digest-left.ensures digests l s ∙ code_one_part H digests c.args.level c.args.index p few

pub returns : goal.returns
returns g t c digests l s =
    let H = g.D.Digest.digest_of c.args.hash.now in
    let sizes = ap (λ x. c.args.index * x) c.size_of.ensures in
    let p = level_positive c.args.level c.args.index c.args.n c.requires.some (omega (arith, sizes, c.size_of-2.ensures, c.if-index-size_of.false)) in
    let half = ap (λ x. (2 * c.args.index + 1) * x) c.size_of-3.ensures in
    let many : (2 * c.args.index + 1) * 2 ^ (c.args.level - 1) < length digests = omega (arith, half, c.if-index-size_of-2.false, l) in
    c.node_digest.ensures.value
    ∙ ap (λ x. node_hash H x c.stored_digest-right.result) (c.stored_digest-left.ensures digests l s)
    ∙ ap (λ x. node_hash H (subtree_hash H (c.args.level - 1) (leaves_under (c.args.level - 1) (2 * c.args.index) digests)) x) (c.stored_digest-right.ensures digests l s)
    ∙ code_two_parts H digests c.args.level c.args.index p many
