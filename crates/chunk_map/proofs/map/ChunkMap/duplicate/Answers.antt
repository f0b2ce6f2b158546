use Rattle.std.proofs.Common.{ℕ, List, ap, ◌∙◌}
use Rattle.chunk_map.specs.Entries.{ChunkEntries, entries_of}
use Rattle.chunk_map.proofs.map.ChunkMap.duplicate.Goals as goal

pub returns : goal.returns
returns g c =
    let of : List ℕ → List (List ℕ) → ChunkEntries = λ indices chunks. record { entries = entries_of indices chunks; indices = indices } in
    ap (λ indices. of indices c.in_ok-copy_chunks.field-0.items) c.in_ok-duplicate.ensures ∙ ap (of c.self.inside.places) c.in_ok-copy_chunks.ensures ∙ c.self.view_is
