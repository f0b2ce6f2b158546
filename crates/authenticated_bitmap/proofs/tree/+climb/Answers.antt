use Rattle.std.proofs.Common.{◌≡◌, ◌≢◌, length, reverse, Some, sym, ap, arith, ◌∙◌}
use Rattle.std.specs.Option.{option_map}
use Rattle.std.proofs.lemmas.Grind.{common_steps}
use Rattle.authenticated_bitmap.specs.Tree.{node_hash}
use Rattle.authenticated_bitmap.proofs.Halves.{code_climbed_low, code_climbed_short, code_climbed_left, code_climbed_right, code_climbed_done, code_climbed_long}
use Rattle.authenticated_bitmap.proofs.tree.+climb.Goals as goal

pub returns-then-is_empty-clause-value : goal.returns-then-is_empty-clause-value
returns-then-is_empty-clause-value g t c =
    let H = g.D.Digest.digest_of c.args.hash.now in
    let none : length c.args.path.now ≡ 0 = grind (arith, common_steps) in
    code_climbed_done H c.args.height c.args.i c.args.n c.args.digest.now c.args.path.now c.if-height-eq0.true none

pub returns-else-is_empty-clause-value : goal.returns-else-is_empty-clause-value
returns-else-is_empty-clause-value g t c =
    let H = g.D.Digest.digest_of c.args.hash.now in
    let some : length c.args.path.now ≢ 0 = grind (arith, common_steps) in
    code_climbed_long H c.args.height c.args.i c.args.n c.args.digest.now c.args.path.now c.if-height-eq0.true some

pub returns-then-n-half-clause-value : goal.returns-then-n-half-clause-value
returns-then-n-half-clause-value g t c =
    let H = g.D.Digest.digest_of c.args.hash.now in
    c.climb.ensures.value ∙ code_climbed_low H c.args.height c.half_of-half.result c.half_of-half.ensures (omega arith) c.args.i c.args.n c.args.digest.now (reverse c.args.path.now) c.if-n-half.true

pub returns-in_err-beside-clause-value : goal.returns-in_err-beside-clause-value
returns-in_err-beside-clause-value g t c =
    let H = g.D.Digest.digest_of c.args.hash.now in
    c.from_residual.ensures ∙ code_climbed_short H c.args.height c.half_of-half.result c.half_of-half.ensures (omega arith) c.args.i c.args.n c.args.digest.now c.args.path.now c.if-n-half.false c.in_err-beside.ensures.cases

pub returns-in_err-left-clause-value : goal.returns-in_err-left-clause-value
returns-in_err-left-clause-value g t c =
    let H = g.D.Digest.digest_of c.args.hash.now in
    c.from_residual-in_err-left.ensures ∙ ap (option_map (λ left. node_hash H left c.in_ok-beside.beside.now)) (sym c.in_err-left.was ∙ c.climb-then-i-half.ensures.value)
    ∙ code_climbed_left H c.args.height c.half_of-half.result c.half_of-half.ensures (omega arith) c.args.i c.args.n c.args.digest.now c.args.path.now c.in_ok-beside.below.now c.in_ok-beside.beside.now c.if-n-half.false c.if-i-half.true c.in_ok-beside.ensures.cases.0

pub returns-in_err-right-clause-value : goal.returns-in_err-right-clause-value
returns-in_err-right-clause-value g t c =
    let H = g.D.Digest.digest_of c.args.hash.now in
    c.from_residual-in_err-right.ensures ∙ ap (option_map (λ right. node_hash H c.in_ok-beside.beside.now right)) (sym c.in_err-right.was ∙ c.climb-else-i-half.ensures.value)
    ∙ code_climbed_right H c.args.height c.half_of-half.result c.half_of-half.ensures (omega arith) c.args.i c.args.n c.args.digest.now c.args.path.now c.in_ok-beside.below.now c.in_ok-beside.beside.now c.if-n-half.false c.if-i-half.false c.in_ok-beside.ensures.cases.0

pub returns-in_ok-left-clause-value : goal.returns-in_ok-left-clause-value
returns-in_ok-left-clause-value g t c =
    let H = g.D.Digest.digest_of c.args.hash.now in
    ap Some c.node_digest.ensures.value ∙ ap (option_map (λ left. node_hash H left c.in_ok-beside.beside.now)) (sym c.in_ok-left.was ∙ c.climb-then-i-half.ensures.value)
    ∙ code_climbed_left H c.args.height c.half_of-half.result c.half_of-half.ensures (omega arith) c.args.i c.args.n c.args.digest.now c.args.path.now c.in_ok-beside.below.now c.in_ok-beside.beside.now c.if-n-half.false c.if-i-half.true c.in_ok-beside.ensures.cases.0

pub returns-in_ok-right-clause-value : goal.returns-in_ok-right-clause-value
returns-in_ok-right-clause-value g t c =
    let H = g.D.Digest.digest_of c.args.hash.now in
    ap Some c.node_digest-else-i-half.ensures.value ∙ ap (option_map (λ right. node_hash H c.in_ok-beside.beside.now right)) (sym c.in_ok-right.was ∙ c.climb-else-i-half.ensures.value)
    ∙ code_climbed_right H c.args.height c.half_of-half.result c.half_of-half.ensures (omega arith) c.args.i c.args.n c.args.digest.now c.args.path.now c.in_ok-beside.below.now c.in_ok-beside.beside.now c.if-n-half.false c.if-i-half.false c.in_ok-beside.ensures.cases.0
