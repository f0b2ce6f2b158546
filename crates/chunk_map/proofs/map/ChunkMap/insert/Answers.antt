use Rattle.std.proofs.Common.{◌≡◌, slice_set, Some, None, subst}
use Rattle.std.specs.Map.{lookup}
use Rattle.std.specs.Prelude.{nat_eq}
use Rattle.chunk_map.specs.Entries.{ChunkEntries, Puts, entries_of}
use Rattle.chunk_map.specs.Trie.{IsAt}
use Rattle.chunk_map.proofs.EntryLists.{entries_sorted, not_at, puts_set}
use Rattle.chunk_map.proofs.map.ChunkMap.insert.Goals as goal

pub returns-in-Some-clause-ok : goal.returns-in-Some-clause-ok
returns-in-Some-clause-ok g c =
    let ks = c.self.inside.places in
    let cs = c.self.inside.chunks.items in
    subst (λ (v : ChunkEntries). IsAt v.indices c.args.index c.in-Some.at → Puts v.entries (entries_of ks (slice_set cs c.in-Some.at c.args.chunk)) c.args.index (Some c.args.chunk)) c.self.view_is
    (λ f. subst (λ i. Puts (entries_of ks cs) (entries_of ks (slice_set cs c.in-Some.at c.args.chunk)) i (Some c.args.chunk)) f.is (puts_set ks cs c.in-Some.at c.args.chunk c.self.invariant.apart c.self.invariant.sizes f.within))
    c.in-Some.ensures.place

pub returns-in-Some-clause-absent : goal.returns-in-Some-clause-absent
returns-in-Some-clause-absent g c = λ none. absurd (
    subst (λ (v : ChunkEntries). IsAt v.indices c.args.index c.in-Some.at → lookup (nat_eq c.args.index) v.entries ≡ None → ⊥) c.self.view_is
    (λ f e. not_at c.self.inside.places c.self.inside.chunks.items c.args.index c.in-Some.at c.self.invariant.apart c.self.invariant.sizes f e)
    c.in-Some.ensures.place none)

pub returns-in-Some-clause-sorted : goal.returns-in-Some-clause-sorted
returns-in-Some-clause-sorted g c = entries_sorted c.self.inside.places (slice_set c.self.inside.chunks.items c.in-Some.at c.args.chunk)
