use Rattle.std.proofs.Common.{◌/◌, arith, refl, sym, subst}
use Rattle.chunk_map.specs.Trie.{node_at}
use Rattle.chunk_map.proofs.Following.{KeepsRest, rest_new, rest_stays, start_next, walk_on}
use Rattle.chunk_map.proofs.next.start.Goals as goal
use Rattle.chunk_map.proofs.next.start.Goals.{then-digit-lt16, else-digit-lt16, else-link-gt0-via-then-link-gt0+else-from-keys, else-link-gt0-via-else-link-gt0}

pub loop-link-preserved : goal.loop-link-preserved
loop-link-preserved c = record {
  walk = walk_on _ _ _ _ _ _ c.requires c.loop-link.invariant.walk c.loop-link-test.true c.if-prefix-node.false;
  rest =
      let node = node_at c.args.nodes.now (c.loop-link.link / 2) in
      elim c.if-digit-lt16.branch [
        | then-digit-lt16 w ↦ subst (λ n. KeepsRest c.args.nodes.now c.args.keys.now c.args.from node.shift n) (sym w.next-is) (rest_new _ _ _ _ _ _ c.next_digit-digit.result _ _ c.requires c.loop-link.invariant.walk c.loop-link-test.true c.if-prefix-node.false w.if-digit-lt16.true c.next_digit-digit.ensures.from c.next_digit-digit.ensures.least refl refl)
        | else-digit-lt16 w ↦ subst (λ n. KeepsRest c.args.nodes.now c.args.keys.now c.args.from node.shift n) (sym w.next-is) (rest_stays _ _ _ _ _ c.next_digit-digit.result _ c.loop-link.invariant.walk c.loop-link-test.true c.if-prefix-node.false (omega arith) c.next_digit-digit.ensures.least c.loop-link.invariant.rest)
      ];
}

pub returns : goal.returns
returns c =
    start_next _ _ _ _ _ _ c.loop-link.invariant.walk (omega arith)
    (λ some. elim c.else-link-gt0.branch [
      | else-link-gt0-via-then-link-gt0+else-from-keys w ↦ omega arith
      | else-link-gt0-via-else-link-gt0 w ↦ absurd (omega arith)
    ])
    c.loop-link.invariant.rest
