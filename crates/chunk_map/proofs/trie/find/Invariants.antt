use Rattle.std.proofs.Common.{◌≡◌, ℕ, ◌/◌, ◌%◌, ◌<◌, ◌≤◌, length, slice_index}
use Rattle.chunk_map.specs.Trie.{Finds, height_of}
use Rattle.chunk_map.proofs.trie.find.Given as goal

abbrev pub invariant-loop-link : goal.invariant-loop-link
invariant-loop-link l = record {
  node : l.link % 2 ≡ 1 → l.link / 2 < length l.nodes;
  place : l.link % 2 ≡ 0 → l.link / 2 ≤ length l.keys;
  path : (place : ℕ) → place < length l.keys → slice_index l.keys place ≡ l.key → Finds l.nodes l.keys l.key place l.link;
}

abbrev pub decreases-loop-link : goal.decreases-loop-link
decreases-loop-link l = height_of l.nodes l.link (l.link % 2)
