use Rattle.std.proofs.Common.{◌≡◌, ◌/◌, ◌%◌, ◌<◌, length}
use Rattle.chunk_map.specs.Trie.{IsWay, height_of}
use Rattle.chunk_map.proofs.trie.seek.Given as goal

abbrev pub invariant-loop-link : goal.invariant-loop-link
invariant-loop-link l = record {
  within : l.link % 2 ≡ 1 → l.link / 2 < length l.nodes;
  way : IsWay l.nodes l.root l.key l.owner l.link;
}

abbrev pub decreases-loop-link : goal.decreases-loop-link
decreases-loop-link l = height_of l.nodes l.link (l.link % 2)
