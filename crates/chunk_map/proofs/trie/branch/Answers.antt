use Rattle.chunk_map.proofs.Branching.{apart_at_top}
use Rattle.chunk_map.proofs.trie.branch.Goals as goal

pub parting-shift-requires-clause-apart : goal.parting-shift-requires-clause-apart
parting-shift-requires-clause-apart c =
    rw (c.base_and_top-base.ensures.base, c.base_and_top-base.ensures.top, c.deref.ensures.value) (apart_at_top _ _ _ _ c.requires.stops c.requires.other)
