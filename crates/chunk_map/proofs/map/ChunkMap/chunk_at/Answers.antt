use Rattle.std.proofs.Common.{◌≡◌, ◌<◌, length, slice_index, Some, sym, ap, ◌∙◌, subst}
use Rattle.std.specs.Map.{lookup}
use Rattle.std.specs.Prelude.{nat_eq}
use Rattle.chunk_map.specs.Entries.{ChunkEntries}
use Rattle.chunk_map.proofs.EntryLists.{entry_at}
use Rattle.chunk_map.proofs.map.ChunkMap.chunk_at.Goals as goal

pub returns : goal.returns
returns g c =
    subst (λ (v : ChunkEntries). c.args.place < length v.indices → lookup (nat_eq (slice_index v.indices c.args.place)) v.entries ≡ Some c.index.result.now) c.self.view_is
    (λ h. entry_at c.self.inside.places c.self.inside.chunks.items c.args.place c.index.result.now c.self.invariant.apart c.self.invariant.sizes h ∙ ap Some (sym c.index.ensures))
    c.requires
