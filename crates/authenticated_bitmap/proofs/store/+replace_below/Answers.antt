use Rattle.std.proofs.Common.{◌≡◌, ◌+◌, ◌*◌, ◌-◌, ◌^◌, ◌<◌, ◌≤◌, ◌++◌, length, take, drop, set, sym, ap, arith, rules, ◌∙◌}
use Rattle.std.proofs.lemmas.List.{length-drop, length-set, length-take-le, length-append}
use Rattle.authenticated_bitmap.specs.Stored.{nodes, stored_below}
use Rattle.authenticated_bitmap.proofs.Nodes.{ones_one, top}
use Rattle.authenticated_bitmap.proofs.Replaced.{code_as_left, code_as_right, code_finishes_ok, code_from_right, code_leaf, code_left_fits, code_low, code_right_fits, code_size, code_whole_fits, from_left, full_count, halfway, on_ok_equal}
use Rattle.authenticated_bitmap.proofs.store.+replace_below.Goals as goal

pub returns-then-level-eq0-clause-value : goal.returns-then-level-eq0-clause-value
returns-then-level-eq0-clause-value g t c before block after lb lk is =
    let H = g.D.Digest.digest_of c.args.hash.now in
    let old = g.S.EditNodes.held c.args.stored.now in
    let digest = c.args.digest.now in
    on_ok_equal c.set_node.result (g.S.EditNodes.held c.set_node.new.self) (set old c.args.place digest) (before ++ stored_below H c.args.level (set block c.args.i digest) ++ after) c.set_node.ensures.ok
    (code_leaf H c.args.level c.args.place old before block after c.args.i digest (omega (arith, c.if-level-eq0.true)) lb (omega (arith, lk, c.requires.few)) (omega (arith, lk, c.requires.some)) is)

pub set_node-requires-clause-within : goal.set_node-requires-clause-within
set_node-requires-clause-within g t c =
    let zero : c.args.level ≡ 0 = omega (arith, c.if-level-eq0.true) in
    let one : c.args.count ≡ 1 = omega (arith, c.requires.some, c.requires.few, ap (λ l. 2 ^ l) zero) in
    omega (arith, c.requires.within, ap (λ n. nodes n) one, ones_one)

pub returns-then-count-half-clause-value : goal.returns-then-count-half-clause-value
returns-then-count-half-clause-value g t c before block after lb lk is =
    let H = g.D.Digest.digest_of c.args.hash.now in
    let new = set block c.args.i c.args.digest.now in
    let p : 0 < c.args.level = omega (arith, c.if-level-eq0.false) in
    let few : length block ≤ c.size_of-half.result = omega (arith, lk, c.if-count-half.true) in
    let k = c.args.level - 1 in
    on_ok_equal c.replace_below.result (g.S.EditNodes.held c.replace_below.new.stored) (before ++ stored_below H k new ++ after) (before ++ stored_below H c.args.level new ++ after)
    (c.replace_below.ensures.value before block after lb lk (is ∙ code_low H c.args.level c.size_of-half.result c.size_of-half.ensures p before block after few))
    (sym (code_low H c.args.level c.size_of-half.result c.size_of-half.ensures p before new after (omega (arith, length-set block c.args.i c.args.digest.now, few))))

pub replace_below-requires-then-i-half : goal.replace_below-requires-then-i-half
replace_below-requires-then-i-half g t c κs within =
    let half = c.size_of-half.result in
    let p : 0 < c.args.level = omega (arith, c.if-level-eq0.false) in
    let more : half < c.args.count = omega (arith, c.if-count-half.false) in
    let fits : c.args.place + nodes half ≤ length (g.S.EditNodes.held c.args.stored.now) = omega (arith, code_left_fits c.args.level half c.args.count c.size_of-half.ensures p more c.requires.few, c.requires.within) in
    search (rules, fits, p)

pub rehash-requires-clause-few : goal.rehash-requires-clause-few
rehash-requires-clause-few g t c =
    omega (arith, c.requires.few, code_size c.args.level c.size_of-half.result c.args.count c.size_of-half.ensures (omega (arith, c.if-level-eq0.false)))

pub rehash-requires-clause-within : goal.rehash-requires-clause-within
rehash-requires-clause-within g t c all =
    let whole = code_whole_fits c.args.level c.size_of-half.result c.args.count c.size_of-half.ensures (omega (arith, c.if-level-eq0.false)) all in
    omega (arith, whole, c.requires.within, c.replace_below-then-i-half.ensures.size, c.if-count-half.false, all)

pub returns-then-i-half-clause-value : goal.returns-then-i-half-clause-value
returns-then-i-half-clause-value g t c before block after lb lk is =
    let H = g.D.Digest.digest_of c.args.hash.now in
    let half = c.size_of-half.result in
    let e = c.size_of-half.ensures in
    let k = c.args.level - 1 in
    let digest = c.args.digest.now in
    let new = set block c.args.i digest in
    let mid = g.S.EditNodes.held c.replace_below-then-i-half.new.stored in
    let p : 0 < c.args.level = omega (arith, c.if-level-eq0.false) in
    let same : length new ≡ length block = length-set block c.args.i digest in
    let size : length (take (2 ^ k) block) ≡ half = omega (arith, length-take-le (2 ^ k) block (omega (arith, lk, c.if-count-half.false, e)), e) in
    let mid_is : mid ≡ before ++ halfway H k new block ++ after =
    c.in_ok-replace_below.ensures.value before (take (2 ^ k) block) (stored_below H k (drop (2 ^ k) block) ++ (top H k block ++ after)) lb size (is ∙ code_as_left H c.args.level half e p before block after)
    ∙ from_left H k before block after c.args.i digest (omega (arith, c.if-i-half.true, e)) in
    code_finishes_ok H c.args.level half e p before block after c.rehash.result new mid (g.S.EditNodes.held c.rehash.new.stored) (c.args.place + 2 * half - 1) same (omega (arith, same, lk, c.requires.few)) mid_is (omega (arith, lb))
    (λ h. c.rehash.ensures.part (omega (arith, h, same, lk))) (λ h. c.rehash.ensures.whole (omega (arith, h, same, lk)))

pub replace_below-requires-2 : goal.replace_below-requires-2
replace_below-requires-2 g t c κs within =
    let half = c.size_of-half.result in
    let e = c.size_of-half.ensures in
    let p : 0 < c.args.level = omega (arith, c.if-level-eq0.false) in
    let more : half < c.args.count = omega (arith, c.if-count-half.false) in
    let few : c.args.count - half ≤ 2 ^ (c.args.level - 1) = omega (arith, code_size c.args.level half c.args.count e p, e, c.requires.few) in
    let some : c.args.i - half < c.args.count - half = omega (arith, c.if-i-half.false, c.requires.some) in
    let fits : c.args.place + 2 * half - 1 + nodes (c.args.count - half) ≤ length (g.S.EditNodes.held c.args.stored.now) =
    omega (arith, code_right_fits c.args.level half c.args.count e p more c.requires.few, c.requires.within, more, c.if-i-half.false, c.requires.some) in
    search (rules, few, some, fits, p)

pub rehash-requires-2-clause-few : goal.rehash-requires-2-clause-few
rehash-requires-2-clause-few g t c =
    omega (arith, c.requires.few, code_size c.args.level c.size_of-half.result c.args.count c.size_of-half.ensures (omega (arith, c.if-level-eq0.false)))

pub rehash-requires-2-clause-within : goal.rehash-requires-2-clause-within
rehash-requires-2-clause-within g t c all =
    let whole = code_whole_fits c.args.level c.size_of-half.result c.args.count c.size_of-half.ensures (omega (arith, c.if-level-eq0.false)) all in
    omega (arith, whole, c.requires.within, c.replace_below-2.ensures.size, c.if-count-half.false, all)

pub returns-clause-value : goal.returns-clause-value
returns-clause-value g t c before block after lb lk is =
    let H = g.D.Digest.digest_of c.args.hash.now in
    let half = c.size_of-half.result in
    let e = c.size_of-half.ensures in
    let k = c.args.level - 1 in
    let digest = c.args.digest.now in
    let new = set block c.args.i digest in
    let mid = g.S.EditNodes.held c.replace_below-2.new.stored in
    let left = stored_below H k (take (2 ^ k) block) in
    let p : 0 < c.args.level = omega (arith, c.if-level-eq0.false) in
    let same : length new ≡ length block = length-set block c.args.i digest in
    let first : length (take (2 ^ k) block) ≡ 2 ^ k = length-take-le (2 ^ k) block (omega (arith, lk, c.if-count-half.false, e)) in
    let start : length (before ++ left) ≡ c.args.place + 2 * half - 1 = omega (arith, length-append before left, full_count H k (take (2 ^ k) block) first, lb, e, c.if-count-half.false, c.if-i-half.false) in
    let size : length (drop (2 ^ k) block) ≡ c.args.count - half = omega (arith, length-drop (2 ^ k) block, lk, e) in
    let mid_is : mid ≡ before ++ halfway H k new block ++ after =
    c.in_ok-replace_below-2.ensures.value (before ++ left) (drop (2 ^ k) block) (top H k block ++ after) start size (is ∙ code_as_right H c.args.level half e p before block after)
    ∙ code_from_right H c.args.level half e p before block after c.args.i digest (omega (arith, c.if-i-half.false)) in
    code_finishes_ok H c.args.level half e p before block after c.rehash-2.result new mid (g.S.EditNodes.held c.rehash-2.new.stored) (c.args.place + 2 * half - 1) same (omega (arith, same, lk, c.requires.few)) mid_is (omega (arith, lb))
    (λ h. c.rehash-2.ensures.part (omega (arith, h, same, lk))) (λ h. c.rehash-2.ensures.whole (omega (arith, h, same, lk)))
