use Rattle.std.proofs.Common.{arith}
use Rattle.chunk_map.proofs.Following.{past_reports, walk_end, walk_found, walk_next, walk_none}
use Rattle.chunk_map.proofs.next.walk.Goals as goal
use Rattle.chunk_map.proofs.next.walk.Goals.{else-link-gt0-via-then-link-gt0+else-at-keys, else-link-gt0-via-else-link-gt0}

pub loop-link-preserved : goal.loop-link-preserved
loop-link-preserved c =
    walk_next _ _ _ _ _ _ _ _ c.requires.trie.1 c.loop-link.invariant c.loop-link-test.true c.in-Some.ensures.first

pub returns-in-None : goal.returns-in-None
returns-in-None c =
    past_reports _ _ _ _ _ (λ place h. let f = c.type_inv.keys place in omega (arith, f)) c.loop-link.invariant.from_on c.loop-link.invariant.all (walk_none _ _ _ _ _ _ c.loop-link.invariant c.loop-link-test.true c.in-None.ensures.first) c.past.ensures

pub returns-then-at-keys : goal.returns-then-at-keys
returns-then-at-keys c = walk_found _ _ _ _ _ _ c.loop-link.invariant (omega arith) c.if-link-gt0.true c.if-at-keys.true

pub returns : goal.returns
returns c =
    past_reports _ _ _ _ _ (λ place h. let f = c.type_inv.keys place in omega (arith, f)) c.loop-link.invariant.from_on c.loop-link.invariant.all
    (walk_end _ _ _ _ _ _ c.loop-link.invariant (omega arith) (λ some. elim c.else-link-gt0.branch [
      | else-link-gt0-via-then-link-gt0+else-at-keys w ↦ omega arith
      | else-link-gt0-via-else-link-gt0 w ↦ absurd (omega arith)
    ]))
    c.past-2.ensures
