use Rattle.std.proofs.Common.{◌≡◌, subst}
use Rattle.std.proofs.lemmas.Result.{IfOk-weaker}
use Rattle.std.specs.Map.{keys_of}
use Rattle.std.specs.Prelude.{IfOk}
use Rattle.chunk_map.specs.Ascending.{IsAscendingOf}
use Rattle.chunk_map.specs.Entries.{ChunkEntries}
use Rattle.chunk_map.proofs.Ordered.{entries_ascending}
use Rattle.chunk_map.proofs.map.ChunkMap.ascending_indices.Goals as goal

pub returns : goal.returns
returns g c =
    subst (λ (v : ChunkEntries). IfOk c.ascending.result (λ indices. indices.items ≡ keys_of v.entries)) c.self.view_is
    (IfOk-weaker c.ascending.result (λ keys. IsAscendingOf c.self.inside.places keys.items) _
    (λ keys a. entries_ascending c.self.inside.places c.self.inside.chunks.items keys.items c.self.invariant.apart c.self.invariant.sizes a) c.ascending.ensures)
