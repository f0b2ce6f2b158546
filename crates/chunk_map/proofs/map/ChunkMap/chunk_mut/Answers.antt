use Rattle.std.proofs.Common.{◌≡◌, ℕ, ◌<◌, List, length, slice_index, slice_set, Some, refl, sym, ap, ◌∙◌, subst}
use Rattle.std.specs.Map.{lookup}
use Rattle.std.specs.Prelude.{nat_eq}
use Rattle.chunk_map.specs.Entries.{ChunkEntries, entries_of, with_chunk_at}
use Rattle.chunk_map.proofs.EntryLists.{entry_at, set_is}
use Rattle.chunk_map.proofs.map.ChunkMap.chunk_mut.Goals as goal

pub returns : goal.returns
returns g c =
    let ks = c.self.inside.places in
    let cs = c.self.inside.chunks.items in
    let within : c.args.place < length ks = subst (λ (v : ChunkEntries). c.args.place < length v.indices) (sym c.self.view_is) c.requires in
    let made : List (ℕ × List ℕ) → ChunkEntries = λ es. record { entries = es; indices = ks } in
    let is : (w : List ℕ) → made (entries_of ks (slice_set cs c.args.place w)) ≡ with_chunk_at c.args.self.now c.args.place w =
    λ w. ap made (set_is ks cs c.args.place w c.self.invariant.apart c.self.invariant.sizes within) ∙ ap (λ (v : ChunkEntries). with_chunk_at v c.args.place w) c.self.view_is in
    let value : lookup (nat_eq (slice_index c.args.self.now.indices c.args.place)) c.args.self.now.entries ≡ Some c.index_mut.result.now =
    subst (λ (v : ChunkEntries). lookup (nat_eq (slice_index v.indices c.args.place)) v.entries ≡ Some c.index_mut.result.now) c.self.view_is
    (entry_at ks cs c.args.place c.index_mut.result.now c.self.invariant.apart c.self.invariant.sizes within ∙ ap Some (sym c.index_mut.ensures.value)) in
    ((refl {a = c.index_mut.result.ghost_name}, is), record { writes_back = tt; value = value })
