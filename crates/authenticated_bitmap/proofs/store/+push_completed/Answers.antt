use Rattle.std.proofs.Common.{◌≡◌, ◌+◌, ◌*◌, ◌-◌, ◌/◌, ◌^◌, ◌<◌, ◌≤◌, ◌++◌, ◌∷◌, [], OnOk, length, get_or, sym, ap, subst, arith, rules, ◌∙◌}
use Rattle.authenticated_bitmap.specs.Stored.{nodes, position}
use Rattle.authenticated_bitmap.proofs.Appended.{halved, code_place_above, code_place_before, code_deeper, code_fits, code_whole, code_completes, code_place_end, code_finishes, begins_on, same_count}
use Rattle.authenticated_bitmap.proofs.store.+push_completed.Goals as goal

pub returns-then-index-eq0-clause-value : goal.returns-then-index-eq0-clause-value
returns-then-index-eq0-clause-value g t c all l is above_is =
    code_finishes c.args.level c.args.index (omega (arith, c.if-index-eq0.true)) (g.D.Digest.digest_of c.args.hash.now) all (g.S.EditNodes.held c.args.stored.now) l is

pub returns-then-index-eq0-clause-count : goal.returns-then-index-eq0-clause-count
returns-then-index-eq0-clause-count g t c = c.requires.count ∙ code_place_end c.args.level c.args.index (omega (arith, c.if-index-eq0.true))

pub node_position-requires-clause-fits : goal.node_position-requires-clause-fits
node_position-requires-clause-fits g t c = code_fits c.args.level c.args.index (omega (arith, c.if-index-eq0.false)) c.requires.fits

pub node-left-requires-clause-within : goal.node-left-requires-clause-within
node-left-requires-clause-within g t c =
    omega (arith, code_place_before c.args.level c.args.index (omega (arith, c.if-index-eq0.false)), c.node_position.ensures, c.requires.count)

pub push_completed-requires : goal.push_completed-requires
push_completed-requires g t c κs within =
    let odd : c.args.index ≡ 2 * (c.args.index / 2) + 1 = omega (arith, c.if-index-eq0.false) in
    let low : c.args.level + 1 ≤ 61 = code_deeper c.args.level c.args.index odd c.requires.fits c.requires.low in
    let fits : (c.args.index / 2 + 1) * 2 ^ (c.args.level + 1) ≤ 2 ^ 61 = omega (arith, halved c.args.level c.args.index odd, c.requires.fits) in
    let count : length (g.S.EditNodes.held c.push_node.new.self) ≡ position (c.args.level + 1) (c.args.index / 2) + 1 =
    omega (arith, same_count (g.S.EditNodes.held c.push_node.new.self) (g.S.EditNodes.held c.args.stored.now) c.node_digest-whole.result c.in_ok-push_node.ensures.ok, c.requires.count, code_place_above c.args.level c.args.index odd) in
    let less : c.args.index / 2 < c.args.index = omega (arith, odd) in
    search (rules, low, fits, count, less)

pub returns-clause-value : goal.returns-clause-value
returns-clause-value g t c all l is above_is =
    let H = g.D.Digest.digest_of c.args.hash.now in
    let items = g.S.EditNodes.held c.args.stored.now in
    let odd : c.args.index ≡ 2 * (c.args.index / 2) + 1 = omega (arith, c.if-index-eq0.false) in
    let left = c.node-left.result in
    let left_is : left ≡ get_or items (position c.args.level (c.args.index - 1)) [] = c.node-left.ensures ∙ ap (λ p. get_or items p []) c.node_position.ensures in
    c.push_completed.ensures.value all (l ∙ sym (halved c.args.level c.args.index odd))
    (c.in_ok-push_node.ensures.ok ∙ ap (λ x. items ++ x ∷ []) c.node_digest-whole.ensures.value ∙ code_completes H all c.args.level c.args.index odd l items left c.args.above.now is left_is above_is)
    (c.node_digest-whole.ensures.value ∙ code_whole H all c.args.level c.args.index odd l items left c.args.above.now is left_is above_is)

pub returns-clause-count : goal.returns-clause-count
returns-clause-count g t c =
    let odd : c.args.index ≡ 2 * (c.args.index / 2) + 1 = omega (arith, c.if-index-eq0.false) in
    subst (λ m. OnOk c.push_completed.result (length (g.S.EditNodes.held c.push_completed.new.stored) ≡ nodes m)) (halved c.args.level c.args.index odd) c.push_completed.ensures.count

pub returns-clause-begins : goal.returns-clause-begins
returns-clause-begins g t c =
    begins_on (g.S.EditNodes.held c.push_node.new.self) (g.S.EditNodes.held c.args.stored.now) (g.S.EditNodes.held c.push_completed.new.stored) c.node_digest-whole.result c.push_completed.ensures.begins c.in_ok-push_node.ensures.ok
