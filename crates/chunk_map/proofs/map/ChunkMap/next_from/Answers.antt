use Rattle.std.proofs.Common.{ℕ, Some, None, sym, subst}
use Rattle.std.specs.Map.{keys_of}
use Rattle.chunk_map.specs.Entries.{ChunkEntries, IsNextMember, entries_of}
use Rattle.chunk_map.proofs.EntryLists.{next_none, next_some}
use Rattle.chunk_map.proofs.map.ChunkMap.next_from.Goals as goal

pub returns-in-Some : goal.returns-in-Some
returns-in-Some g c =
    let ks = c.self.inside.places in
    let cs = c.self.inside.chunks.items in
    subst (λ (v : ChunkEntries). IsNextMember (keys_of v.entries) c.args.from (Some c.key_at.result)) c.self.view_is
    (subst (λ (x : ℕ). IsNextMember (keys_of (entries_of ks cs)) c.args.from (Some x)) (sym c.key_at.ensures) (next_some ks cs c.args.from c.in-Some.place c.self.invariant.apart c.self.invariant.sizes c.in-Some.ensures))

pub returns-in-None : goal.returns-in-None
returns-in-None g c =
    subst (λ (v : ChunkEntries). IsNextMember (keys_of v.entries) c.args.from None) c.self.view_is
    (next_none c.self.inside.places c.self.inside.chunks.items c.args.from c.in-None.ensures)
