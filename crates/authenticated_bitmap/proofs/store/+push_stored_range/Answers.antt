use Rattle.std.proofs.Common.{◌≡◌, ◌+◌, ◌*◌, ◌-◌, ◌^◌, ◌<◌, ◌≤◌, min, ◌++◌, ◌∷◌, [], OnOk, length, ap, subst, arith, rules, ◌∙◌}
use Rattle.std.proofs.Math.Pow.{pow_mono}
use Rattle.authenticated_bitmap.specs.Stored.{leaves_under}
use Rattle.authenticated_bitmap.specs.Range.{siblings_below}
use Rattle.authenticated_bitmap.proofs.FromStored.{level_down}
use Rattle.authenticated_bitmap.proofs.RangeCode.{code_siblings_none, code_siblings_leaf}
use Rattle.authenticated_bitmap.proofs.StoredRanges.{code_stored_low, code_stored_split}
use Rattle.authenticated_bitmap.proofs.store.+push_stored_range.Goals as goal

pub returns-then-count-eq0 : goal.returns-then-count-eq0
returns-then-count-eq0 g t c digests l s =
    let H = g.D.Digest.digest_of c.args.hash.now in
    c.in_ok-push.ensures.items ∙ ap (λ x. c.args.siblings.now.items ++ x ∷ []) (c.stored_digest.ensures digests l s)
    ∙ ap (λ xs. c.args.siblings.now.items ++ xs) (code_siblings_none H c.args.level c.args.first c.args.count (leaves_under c.args.level c.args.index digests) c.if-count-eq0.true)

pub returns-then-level-eq0 : goal.returns-then-level-eq0
returns-then-level-eq0 g t c digests l s =
    code_siblings_leaf (g.D.Digest.digest_of c.args.hash.now) c.args.level c.args.first c.args.count c.args.siblings.now.items (leaves_under c.args.level c.args.index digests) (omega arith) c.if-level-eq0.true

pub overflow_mul-index-2 : goal.overflow_mul-index-2
overflow_mul-index-2 g t c =
    let p : 0 < c.args.level = omega (arith, c.if-level-eq0.false) in
    let small : 2 ^ (c.args.level - 1) ≤ 2 ^ 61 = pow_mono {j = 61} (omega (arith, c.requires.low)) in
    let half = ap (λ x. (2 * c.args.index + 1) * x) c.size_of-half.ensures in
    omega (arith, level_down c.args.level c.args.index p, c.requires.some, c.requires.few, small, half)

pub push_stored_range-requires : goal.push_stored_range-requires
push_stored_range-requires g t c κs within =
    let p : 0 < c.args.level = omega (arith, c.if-level-eq0.false) in
    let some : 2 * c.args.index * 2 ^ (c.args.level - 1) < c.args.n = omega (arith, level_down c.args.level c.args.index p, c.requires.some) in
    search (rules, some, p)

pub returns-then-index-half : goal.returns-then-index-half
returns-then-index-half g t c digests l s =
    let H = g.D.Digest.digest_of c.args.hash.now in
    let p : 0 < c.args.level = omega (arith, c.if-level-eq0.false) in
    let half = ap (λ x. (2 * c.args.index + 1) * x) c.size_of-half.ensures in
    let few : length digests ≤ (2 * c.args.index + 1) * 2 ^ (c.args.level - 1) = omega (arith, half, c.if-index-half.true, l) in
    subst (λ xs. OnOk c.push_stored_range.result (c.push_stored_range.new.siblings.items ≡ c.args.siblings.now.items ++ xs))
    (code_stored_low H digests c.args.level c.args.index c.args.first c.args.count p few) (c.push_stored_range.ensures digests l s)

pub returns : goal.returns
returns g t c digests l s =
    let H = g.D.Digest.digest_of c.args.hash.now in
    let p : 0 < c.args.level = omega (arith, c.if-level-eq0.false) in
    let half = c.size_of-half.result in
    let below = c.args.level - 1 in
    let middle = ap (λ x. (2 * c.args.index + 1) * x) c.size_of-half.ensures in
    let many : (2 * c.args.index + 1) * 2 ^ (c.args.level - 1) < length digests = omega (arith, middle, c.if-index-half.false, l) in
    let left : c.min-in_left.result ≡ min (half - c.args.first) c.args.count = c.min-in_left.ensures ∙ ap (λ m. min m c.args.count) c.saturating_sub-before_half.ensures in
    let right : c.saturating_sub-in_right.result ≡ c.args.count - (half - c.args.first) = c.saturating_sub-in_right.ensures ∙ ap (λ m. c.args.count - m) c.saturating_sub-before_half.ensures in
    let one = c.in_ok-push_stored_range.ensures digests l s in
    let split = code_stored_split H digests c.args.level c.args.index c.args.first c.args.count p half c.args.siblings.now.items c.size_of-half.ensures (omega arith) many in
    let whole : c.push_stored_range-2.new.siblings.items ++ siblings_below H below c.saturating_sub.result c.saturating_sub-in_right.result (leaves_under below (2 * c.args.index + 1) digests)
    ≡ c.args.siblings.now.items ++ siblings_below H c.args.level c.args.first c.args.count (leaves_under c.args.level c.args.index digests) =
    cc (one, left, right, c.saturating_sub.ensures, split) in
    subst (λ items. OnOk c.push_stored_range-3.result (c.push_stored_range-3.new.siblings.items ≡ items)) whole (c.push_stored_range-3.ensures digests l s)
