use Rattle.std.proofs.Common.{◌≡◌, Some, None, sym, ap, ◌∙◌, subst}
use Rattle.std.specs.List.Sorted.{IsStrictlySortedBy}
use Rattle.std.specs.Map.{keys_of, lookup}
use Rattle.std.specs.Ordering.{nat_cmp}
use Rattle.std.specs.Prelude.{nat_eq}
use Rattle.chunk_map.specs.Entries.{ChunkEntries, Puts, entries_of}
use Rattle.chunk_map.specs.Trie.{IsAt, without_place}
use Rattle.chunk_map.proofs.EntryLists.{entries_sorted, found_at, puts_without}
use Rattle.chunk_map.proofs.map.ChunkMap.remove.Goals as goal

pub returns-in-Some-clause-value : goal.returns-in-Some-clause-value
returns-in-Some-clause-value g c =
    subst (λ (v : ChunkEntries). IsAt v.indices c.args.index c.in-Some.place → Some c.swap_remove.result ≡ lookup (nat_eq c.args.index) v.entries) c.self.view_is
    (λ f. ap Some c.swap_remove.ensures.value ∙ sym (found_at c.self.inside.places c.self.inside.chunks.items c.args.index c.in-Some.place c.swap_remove.result c.self.invariant.apart c.self.invariant.sizes f))
    c.in-Some.ensures.place

pub returns-in-Some-clause-removed : goal.returns-in-Some-clause-removed
returns-in-Some-clause-removed g c =
    let ks = c.self.inside.places in
    let cs = c.self.inside.chunks.items in
    let place = c.in-Some.place in
    let chunk = c.swap_remove.result in
    subst (λ (v : ChunkEntries). IsAt v.indices c.args.index place → Puts v.entries (entries_of c.remove.new.self c.swap_remove.new.self.items) c.args.index None) c.self.view_is
    (λ f. rw (c.remove.ensures, c.swap_remove.ensures.items) (subst (λ i. Puts (entries_of ks cs) (entries_of (without_place ks place 0) (without_place cs place chunk)) i None) f.is (puts_without ks cs place chunk c.self.invariant.apart c.self.invariant.sizes f.within)))
    c.in-Some.ensures.place

pub returns-in-Some-clause-sorted : goal.returns-in-Some-clause-sorted
returns-in-Some-clause-sorted g c = entries_sorted c.remove.new.self c.swap_remove.new.self.items

pub returns-in-None-clause-sorted : goal.returns-in-None-clause-sorted
returns-in-None-clause-sorted g c = subst (λ (v : ChunkEntries). IsStrictlySortedBy nat_cmp (keys_of v.entries)) c.self.view_is (entries_sorted c.self.inside.places c.self.inside.chunks.items)
