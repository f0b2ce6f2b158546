use Rattle.chunk_map.specs.Trie.{height_of}
use Rattle.std.proofs.Common.{◌%◌}
use Rattle.chunk_map.specs.Next.{IsWalk}
use Rattle.chunk_map.proofs.next.walk.Given as goal

abbrev pub invariant-loop-link : goal.invariant-loop-link
invariant-loop-link l = IsWalk l.nodes l.keys l.fn.slot.at l.at l.span l.link

abbrev pub decreases-loop-link : goal.decreases-loop-link
decreases-loop-link l = height_of l.nodes l.link (l.link % 2)
