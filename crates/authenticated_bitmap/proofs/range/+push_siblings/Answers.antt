use Rattle.std.proofs.Common.{◌≡◌, ◌-◌, min, ◌++◌, OnOk, length, take, drop, sym, ap, subst, ◌∙◌, arith}
use Rattle.authenticated_bitmap.specs.Range.{siblings_below}
use Rattle.authenticated_bitmap.proofs.RangeCode.{code_siblings_none, code_siblings_leaf, code_range_low, code_range_split}
use Rattle.authenticated_bitmap.proofs.range.+push_siblings.Goals as goal

pub returns-then-count-eq0 : goal.returns-then-count-eq0
returns-then-count-eq0 g t c =
    let s = code_siblings_none (g.D.Digest.digest_of c.args.hash.now) c.args.height c.args.first c.args.count c.args.digests.now c.if-count-eq0.true in
    cc (c.in_ok-push.ensures.items, c.subtree_digest.ensures, s)

pub returns-then-height-eq0 : goal.returns-then-height-eq0
returns-then-height-eq0 g t c =
    code_siblings_leaf (g.D.Digest.digest_of c.args.hash.now) c.args.height c.args.first c.args.count c.args.siblings.now.items c.args.digests.now (omega arith) c.if-height-eq0.true

pub returns-then-digests-half : goal.returns-then-digests-half
returns-then-digests-half g t c =
    let s = code_range_low (g.D.Digest.digest_of c.args.hash.now) c.args.height c.half_of-half.result c.half_of-half.ensures (omega arith) c.args.first c.args.count c.args.digests.now c.if-digests-half.true in
    rw (sym s) c.push_siblings.ensures

pub returns : goal.returns
returns g t c =
    let H = g.D.Digest.digest_of c.args.hash.now in
    let digests = c.args.digests.now in
    let half = c.half_of-half.result in
    let below = c.args.height - 1 in
    let s = code_range_split H c.args.height half c.half_of-half.ensures (omega arith) c.args.first c.args.count digests c.args.siblings.now.items (omega arith) c.if-digests-half.false in
    let left : c.min-in_left.result ≡ min (half - c.args.first) c.args.count = c.min-in_left.ensures ∙ ap (λ m. min m c.args.count) c.saturating_sub-before_half.ensures in
    let right : c.saturating_sub-in_right.result ≡ c.args.count - (half - c.args.first) = c.saturating_sub-in_right.ensures ∙ ap (λ m. c.args.count - m) c.saturating_sub-before_half.ensures in
    let whole : c.push_siblings-2.new.siblings.items ++ siblings_below H below c.saturating_sub.result c.saturating_sub-in_right.result (take (length digests - half) (drop half digests)) ≡ c.args.siblings.now.items ++ siblings_below H c.args.height c.args.first c.args.count digests =
    cc (c.in_ok-push_siblings.ensures, left, right, c.saturating_sub.ensures, s) in
    subst (λ items. OnOk c.push_siblings-3.result (c.push_siblings-3.new.siblings.items ≡ items)) whole c.push_siblings-3.ensures
