use Rattle.std.proofs.Common.{◌%◌}
use Rattle.chunk_map.specs.Next.{IsWalk}
use Rattle.chunk_map.specs.Trie.{height_of}
use Rattle.chunk_map.proofs.Following.{KeepsRest}
use Rattle.chunk_map.proofs.next.start.Given as goal

abbrev pub invariant-loop-link : goal.invariant-loop-link
invariant-loop-link l = record {
  walk : IsWalk l.nodes l.keys l.from l.from l.span l.link;
  rest : KeepsRest l.nodes l.keys l.from l.span l.next;
}

abbrev pub decreases-loop-link : goal.decreases-loop-link
decreases-loop-link l = height_of l.nodes l.link (l.link % 2)
