use Rattle.std.proofs.Common.{List, ℕ, sym, subst, arith}
use Rattle.chunk_map.specs.Ascending.{AppendsKeys}
use Rattle.chunk_map.proofs.Ordered.{digits_end, digits_more, digits_start, keys_none, keys_one}
use Rattle.chunk_map.proofs.ascending.+append_keys.Goals as goal

pub returns-then-link-eq0 : goal.returns-then-link-eq0
returns-then-link-eq0 t c = keys_none _ _ _ _ (omega arith)

pub returns-then-link-eq0-2 : goal.returns-then-link-eq0-2
returns-then-link-eq0-2 t c =
    subst (λ (new : List ℕ). AppendsKeys c.args.nodes.now c.args.keys.now c.args.link c.args.out.now.items new) (sym c.in_ok-push.ensures.items)
    (keys_one c.args.nodes.now c.args.keys.now c.args.link c.args.out.now.items c.requires.link (omega arith) (λ e. absurd (omega (arith, e))))

pub loop-digit-init : goal.loop-digit-init
loop-digit-init t c = record {
  within = omega arith;
  so_far = digits_start _ _ _ _ _ (omega arith) c.next_digit-digit.ensures.least;
}

pub loop-digit-preserved : goal.loop-digit-preserved
loop-digit-preserved t c = record {
  within = omega arith;
  so_far = digits_more _ _ _ c.args.link c.loop-digit.digit c.next_digit-digit-in-loop-digit.result _ _ _ c.requires.trie.1 (omega arith) (c.requires.link.node (omega arith)) (omega arith) c.next_digit-digit-in-loop-digit.ensures.from c.next_digit-digit-in-loop-digit.ensures.least c.loop-digit.invariant.so_far c.in_ok-append_keys.ensures;
}

pub returns : goal.returns
returns t c = digits_end _ _ _ _ _ _ (omega arith) c.loop-digit.invariant.so_far
