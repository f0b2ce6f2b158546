use Rattle.std.proofs.Common.{◌≡◌, length, sym, ◌∙◌, subst}
use Rattle.chunk_map.specs.Entries.{ChunkEntries}
use Rattle.chunk_map.proofs.EntryLists.{entries_length}
use Rattle.chunk_map.proofs.map.ChunkMap.len.Goals as goal

pub returns-clause-entries : goal.returns-clause-entries
returns-clause-entries g c =
    subst (λ (v : ChunkEntries). c.len.result ≡ length v.entries) c.self.view_is
    (c.len.ensures.value ∙ sym (entries_length c.self.inside.places c.self.inside.chunks.items c.self.invariant.apart c.self.invariant.sizes))
