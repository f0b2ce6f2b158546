use Rattle.chunk_map.proofs.Removed.{end_is, end_way, taken}
use Rattle.chunk_map.proofs.trie.take_link.Goals as goal

pub returns-clause-partial : goal.returns-clause-partial
returns-clause-partial c =
    rw (c.put_link.ensures.nodes, c.put_link.ensures.root) (taken _ _ _ _ _ c.requires.trie (end_way _ _ _ _ _ _ _ (rw c.deref.ensures.value at c.seek-end.ensures) (c.requires.trie.found c.args.place c.requires.within)))

pub returns-clause-link : goal.returns-clause-link
returns-clause-link c =
    end_is _ _ _ _ _ _ _ (rw c.deref.ensures.value at c.seek-end.ensures) (c.requires.trie.found c.args.place c.requires.within)
