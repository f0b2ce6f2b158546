use Rattle.std.proofs.Common.{◌≡◌, ◌+◌, ◌*◌, ◌^◌, ◌++◌, ◌∷◌, [], OnOk, length, ap, subst, arith, ◌∙◌}
use Rattle.authenticated_bitmap.specs.Stored.{nodes}
use Rattle.authenticated_bitmap.proofs.Appended.{code_leaf_place, code_leaf_count, code_leaf_hash, code_begins, begins_on, same_count}
use Rattle.authenticated_bitmap.proofs.store.push_leaf.Goals as goal

pub push_completed-requires-clause-count : goal.push_completed-requires-clause-count
push_completed-requires-clause-count g c =
    omega (arith, same_count (g.S.EditNodes.held c.push_node.new.self) (g.S.EditNodes.held c.args.stored.now) c.args.digest.now c.in_ok-push_node.ensures.ok, c.requires.count, code_leaf_place c.args.n)

pub returns-clause-value : goal.returns-clause-value
returns-clause-value g c digests l s =
    let H = g.D.Digest.digest_of c.args.hash.now in
    let digest = c.args.digest.now in
    c.push_completed.ensures.value (digests ++ digest ∷ []) (code_leaf_count H digests c.args.n l digest)
    (c.in_ok-push_node.ensures.ok ∙ ap (λ xs. xs ++ digest ∷ []) s ∙ code_begins H digests c.args.n l digest) (code_leaf_hash H digests c.args.n l digest)

pub returns-clause-count : goal.returns-clause-count
returns-clause-count g c =
    let one : (c.args.n + 1) * 2 ^ 0 ≡ c.args.n + 1 = omega arith in
    subst (λ m. OnOk c.push_completed.result (length (g.S.EditNodes.held c.push_completed.new.stored) ≡ nodes m)) one c.push_completed.ensures.count

pub returns-clause-begins : goal.returns-clause-begins
returns-clause-begins g c =
    begins_on (g.S.EditNodes.held c.push_node.new.self) (g.S.EditNodes.held c.args.stored.now) (g.S.EditNodes.held c.push_completed.new.stored) c.args.digest.now c.push_completed.ensures.begins c.in_ok-push_node.ensures.ok
