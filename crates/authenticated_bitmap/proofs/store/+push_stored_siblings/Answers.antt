use Rattle.std.proofs.Common.{◌≡◌, ◌+◌, ◌*◌, ◌-◌, ◌^◌, ◌<◌, ◌≤◌, ◌++◌, ◌∷◌, [], OnOk, length, reverse, ap, subst, arith, rules, ◌∙◌}
use Rattle.std.proofs.Math.Pow.{pow_mono}
use Rattle.authenticated_bitmap.specs.Stored.{leaves_under}
use Rattle.authenticated_bitmap.specs.Tree.{siblings}
use Rattle.authenticated_bitmap.proofs.FromStored.{level_down}
use Rattle.authenticated_bitmap.proofs.Halves.{code_no_siblings}
use Rattle.authenticated_bitmap.proofs.StoredPaths.{code_path_low, code_path_left, code_path_right}
use Rattle.authenticated_bitmap.proofs.store.+push_stored_siblings.Goals as goal

pub returns-then-level-eq0 : goal.returns-then-level-eq0
returns-then-level-eq0 g t c digests l s =
    code_no_siblings (g.D.Digest.digest_of c.args.hash.now) c.args.level (c.args.i - c.args.index * 2 ^ c.args.level) c.args.path.now.items (leaves_under c.args.level c.args.index digests) c.if-level-eq0.true

pub overflow_mul-middle-2 : goal.overflow_mul-middle-2
overflow_mul-middle-2 g t c =
    let p : 0 < c.args.level = omega (arith, c.if-level-eq0.false) in
    let small : 2 ^ (c.args.level - 1) ≤ 2 ^ 61 = pow_mono {j = 61} (omega (arith, c.requires.low)) in
    let half = ap (λ x. (2 * c.args.index + 1) * x) c.size_of.ensures in
    omega (arith, level_down c.args.level c.args.index p, c.requires.some, c.requires.from, c.requires.few, small, half)

pub push_stored_siblings-requires : goal.push_stored_siblings-requires
push_stored_siblings-requires g t c κs within =
    let p : 0 < c.args.level = omega (arith, c.if-level-eq0.false) in
    let from : 2 * c.args.index * 2 ^ (c.args.level - 1) ≤ c.args.i = omega (arith, level_down c.args.level c.args.index p, c.requires.from) in
    search (rules, from, p)

pub returns-then-middle-n : goal.returns-then-middle-n
returns-then-middle-n g t c digests l s =
    let H = g.D.Digest.digest_of c.args.hash.now in
    let p : 0 < c.args.level = omega (arith, c.if-level-eq0.false) in
    let half = ap (λ x. (2 * c.args.index + 1) * x) c.size_of.ensures in
    let few : length digests ≤ (2 * c.args.index + 1) * 2 ^ (c.args.level - 1) = omega (arith, half, c.if-middle-n.true, l) in
    subst (λ x. OnOk c.push_stored_siblings.result (c.push_stored_siblings.new.path.items ≡ c.args.path.now.items ++ reverse x))
    (code_path_low H digests c.args.level c.args.index c.args.i p few) (c.push_stored_siblings.ensures digests l s)

pub push_stored_siblings-requires-then-i-middle : goal.push_stored_siblings-requires-then-i-middle
push_stored_siblings-requires-then-i-middle g t c κs within =
    let p : 0 < c.args.level = omega (arith, c.if-level-eq0.false) in
    let from : 2 * c.args.index * 2 ^ (c.args.level - 1) ≤ c.args.i = omega (arith, level_down c.args.level c.args.index p, c.requires.from) in
    search (rules, from, p)

pub returns-in_ok-push : goal.returns-in_ok-push
returns-in_ok-push g t c digests l s =
    let H = g.D.Digest.digest_of c.args.hash.now in
    let p : 0 < c.args.level = omega (arith, c.if-level-eq0.false) in
    let half = ap (λ x. (2 * c.args.index + 1) * x) c.size_of.ensures in
    let many : (2 * c.args.index + 1) * 2 ^ (c.args.level - 1) < length digests = omega (arith, half, c.if-middle-n.false, l) in
    let to : c.args.i < (2 * c.args.index + 1) * 2 ^ (c.args.level - 1) = omega (arith, half, c.if-i-middle.true) in
    c.in_ok-push.ensures.items
    ∙ ap (λ xs. xs ++ c.stored_digest.result ∷ []) (c.in_ok-push_stored_siblings.ensures digests l s)
    ∙ ap (λ x. c.args.path.now.items ++ reverse (siblings H (c.args.level - 1) (c.args.i - (2 * c.args.index) * 2 ^ (c.args.level - 1)) (leaves_under (c.args.level - 1) (2 * c.args.index) digests)) ++ x ∷ []) (c.stored_digest.ensures digests l s)
    ∙ code_path_left H digests c.args.level c.args.index c.args.i p c.args.path.now.items many c.requires.from to

pub returns-in_ok-push-2 : goal.returns-in_ok-push-2
returns-in_ok-push-2 g t c digests l s =
    let H = g.D.Digest.digest_of c.args.hash.now in
    let p : 0 < c.args.level = omega (arith, c.if-level-eq0.false) in
    let half = ap (λ x. (2 * c.args.index + 1) * x) c.size_of.ensures in
    let many : (2 * c.args.index + 1) * 2 ^ (c.args.level - 1) < length digests = omega (arith, half, c.if-middle-n.false, l) in
    let from : (2 * c.args.index + 1) * 2 ^ (c.args.level - 1) ≤ c.args.i = omega (arith, half, c.if-i-middle.false) in
    c.in_ok-push-2.ensures.items
    ∙ ap (λ xs. xs ++ c.stored_digest-else-i-middle.result ∷ []) (c.in_ok-push_stored_siblings-2.ensures digests l s)
    ∙ ap (λ x. c.args.path.now.items ++ reverse (siblings H (c.args.level - 1) (c.args.i - (2 * c.args.index + 1) * 2 ^ (c.args.level - 1)) (leaves_under (c.args.level - 1) (2 * c.args.index + 1) digests)) ++ x ∷ []) (c.stored_digest-else-i-middle.ensures digests l s)
    ∙ code_path_right H digests c.args.level c.args.index c.args.i p c.args.path.now.items many from
