use Rattle.std.proofs.Common.{◌≡◌, ◌≢◌, ◌-◌, min, None, MatchOption, length, refl, ap, subst, ◌∙◌, arith}
use Rattle.std.proofs.lemmas.Grind.{common_steps}
use Rattle.authenticated_bitmap.specs.Tree.{leaf_hashes}
use Rattle.authenticated_bitmap.specs.Range.{Rebuilds}
use Rattle.authenticated_bitmap.proofs.RangeCode.{code_rebuilt_missing, code_rebuilt_sibling, code_rebuilt_leaf, code_rebuilt_low, code_missing_left, code_missing_right, code_both}
use Rattle.authenticated_bitmap.proofs.range.+rebuild.Goals as goal

pub returns-in_err-sibling : goal.returns-in_err-sibling
returns-in_err-sibling g t c =
    let none : length c.args.chunks.now ≡ 0 = grind (arith, common_steps) in
    let H = g.D.Digest.digest_of c.args.hash.now in
    let s = code_rebuilt_missing H c.args.height c.args.n c.args.first c.args.chunks.now c.args.siblings.now none c.in_err-sibling.ensures.cases in
    rw c.from_residual.ensures s

pub returns-then-is_empty : goal.returns-then-is_empty
returns-then-is_empty g t c =
    let none : length c.args.chunks.now ≡ 0 = grind (arith, common_steps) in
    let H = g.D.Digest.digest_of c.args.hash.now in
    code_rebuilt_sibling H c.args.height c.args.n c.args.first c.args.chunks.now c.args.siblings.now c.in_ok-sibling.rest.now c.in_ok-sibling.sibling.now none c.in_ok-sibling.ensures.cases.0

pub returns-then-height-eq0 : goal.returns-then-height-eq0
returns-then-height-eq0 g t c =
    let some : length c.args.chunks.now ≢ 0 = grind (arith, common_steps) in
    let H = g.D.Digest.digest_of c.args.hash.now in
    code_rebuilt_leaf H c.args.height c.args.n c.args.first c.args.chunks.now c.args.siblings.now c.leaf_digest.result c.index-chunks-0.result c.if-height-eq0.true some c.index-chunks-0.is c.leaf_digest.ensures.value

pub returns-then-n-half : goal.returns-then-n-half
returns-then-n-half g t c =
    let H = g.D.Digest.digest_of c.args.hash.now in
    let s = code_rebuilt_low H c.args.height c.half_of-half.result c.half_of-half.ensures (omega arith) c.args.n c.args.first (leaf_hashes H c.args.chunks.now) c.args.siblings.now c.if-n-half.true in
    subst (λ o. MatchOption c.rebuild.result (o ≡ None) (λ tree. Rebuilds o tree.0 tree.1.now)) s c.rebuild.ensures

pub returns-in_err-left : goal.returns-in_err-left
returns-in_err-left g t c =
    let some : length c.args.chunks.now ≢ 0 = grind (arith, common_steps) in
    let H = g.D.Digest.digest_of c.args.hash.now in
    let count : c.min-count.result ≡ min (c.half_of-half.result - c.args.first) (length c.args.chunks.now) = c.min-count.ensures ∙ ap (λ m. min m (length c.args.chunks.now)) c.saturating_sub.ensures in
    let s = code_missing_left H c.args.height c.half_of-half.result c.half_of-half.ensures (omega arith) c.args.n c.args.first c.min-count.result c.args.chunks.now c.args.siblings.now some c.if-n-half.false (c.args.first - c.half_of-half.result) count refl c.in_err-left.ensures in
    rw c.from_residual-in_err-left.ensures s

pub returns-in_err-right : goal.returns-in_err-right
returns-in_err-right g t c =
    let some : length c.args.chunks.now ≢ 0 = grind (arith, common_steps) in
    let H = g.D.Digest.digest_of c.args.hash.now in
    let count : c.min-count.result ≡ min (c.half_of-half.result - c.args.first) (length c.args.chunks.now) = c.min-count.ensures ∙ ap (λ m. min m (length c.args.chunks.now)) c.saturating_sub.ensures in
    let s = code_missing_right H c.args.height c.half_of-half.result c.half_of-half.ensures (omega arith) c.args.n c.args.first c.min-count.result c.args.chunks.now c.args.siblings.now some c.if-n-half.false c.saturating_sub-2.result count c.saturating_sub-2.ensures
    c.in_ok-left.left c.in_ok-left.siblings.now c.in_ok-left.ensures c.in_err-right.ensures in
    rw c.from_residual-in_err-right.ensures s

pub returns : goal.returns
returns g t c =
    let some : length c.args.chunks.now ≢ 0 = grind (arith, common_steps) in
    let H = g.D.Digest.digest_of c.args.hash.now in
    let count : c.min-count.result ≡ min (c.half_of-half.result - c.args.first) (length c.args.chunks.now) = c.min-count.ensures ∙ ap (λ m. min m (length c.args.chunks.now)) c.saturating_sub.ensures in
    code_both H c.args.height c.half_of-half.result c.half_of-half.ensures (omega arith) c.args.n c.args.first c.min-count.result c.args.chunks.now c.args.siblings.now some c.if-n-half.false c.saturating_sub-2.result count c.saturating_sub-2.ensures
    c.node_digest.result c.in_ok-left.left c.in_ok-right.right c.in_ok-left.siblings.now c.in_ok-right.siblings.now c.in_ok-left.ensures c.in_ok-right.ensures c.node_digest.ensures.value
