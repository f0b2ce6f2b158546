use Rattle.std.proofs.Common.{arith}
use Rattle.chunk_map.proofs.Added.{branch_trie}
use Rattle.chunk_map.proofs.trie.add_branch.Goals as goal

pub returns-clause-trie : goal.returns-clause-trie
returns-clause-trie c =
    rw (c.put_link.ensures.nodes, c.put_link.ensures.root, c.push_key.ensures, c.in_ok-reserve.ensures.items)
    (branch_trie _ _ _ _ _ _ _ c.len.result _ (omega arith) c.in_ok-new.ensures.link c.requires.trie c.requires.end.way c.requires.end.within c.requires.some (rw (c.deref.ensures.value, c.in_ok-reserve.ensures.items) at c.in_ok-new.ensures.branches))
