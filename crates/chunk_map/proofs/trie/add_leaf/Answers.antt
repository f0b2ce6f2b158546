use Rattle.std.proofs.Common.{arith}
use Rattle.chunk_map.proofs.Added.{leaf_trie}
use Rattle.chunk_map.proofs.trie.add_leaf.Goals as goal

pub returns-clause-trie : goal.returns-clause-trie
returns-clause-trie c =
    rw (c.put_link.ensures.nodes, c.put_link.ensures.root, c.in_ok-push.ensures.items) (leaf_trie _ _ _ _ _ c.len.result (omega arith) c.requires.trie c.requires.end.way)
