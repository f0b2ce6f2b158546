use Rattle.std.proofs.Common.{ℕ, List, [], ◌∷◌, ◌++◌, ◌≡◌, Some, None, ap, ◌∙◌, subst}
use Rattle.std.specs.Map.{lookup}
use Rattle.std.specs.Prelude.{nat_eq}
use Rattle.chunk_map.specs.Entries.{ChunkEntries, Puts, entries_of}
use Rattle.chunk_map.specs.Trie.{IsAbsent}
use Rattle.chunk_map.proofs.EntryLists.{absent_from_lookup, entries_sorted, paired_add, puts_add}
use Rattle.chunk_map.proofs.map.ChunkMap.add.Goals as goal

pub returns-in_err-reserve-clause-sorted : goal.returns-in_err-reserve-clause-sorted
returns-in_err-reserve-clause-sorted g c = entries_sorted c.self.inside.places c.reserve.new.self.items

pub insert-requires : goal.insert-requires
insert-requires g c =
    subst (λ (v : ChunkEntries). lookup (nat_eq c.args.index) v.entries ≡ None → IsAbsent c.self.inside.places c.args.index) c.self.view_is
    (λ none. absent_from_lookup c.self.inside.places c.self.inside.chunks.items c.args.index c.self.invariant.apart c.self.invariant.sizes none)
    c.requires

pub returns-in_err-insert-clause-sorted : goal.returns-in_err-insert-clause-sorted
returns-in_err-insert-clause-sorted g c = entries_sorted c.insert.new.self c.reserve.new.self.items

pub invariant_of-self-2 : goal.invariant_of-self-2
invariant_of-self-2 g c =
    let ks = c.self.inside.places in
    let cs = c.self.inside.chunks.items in
    let absent : IsAbsent ks c.args.index = subst (λ (v : ChunkEntries). lookup (nat_eq c.args.index) v.entries ≡ None → IsAbsent ks c.args.index) c.self.view_is (λ none. absent_from_lookup ks cs c.args.index c.self.invariant.apart c.self.invariant.sizes none) c.requires in
    paired_add g.row.N ks c.insert.new.self cs c.push_chunk.new.chunks.items c.args.index c.args.chunk c.self.invariant absent c.in_ok-insert.ensures.ok (c.push_chunk.ensures ∙ ap (λ (xs : List (List ℕ)). xs ++ c.args.chunk ∷ []) c.in_ok-reserve.ensures.items)

pub returns-clause-ok : goal.returns-clause-ok
returns-clause-ok g c =
    let ks = c.self.inside.places in
    let cs = c.self.inside.chunks.items in
    subst (λ (v : ChunkEntries). lookup (nat_eq c.args.index) v.entries ≡ None → Puts v.entries (entries_of c.insert.new.self c.push_chunk.new.chunks.items) c.args.index (Some c.args.chunk)) c.self.view_is
    (λ none. puts_add g.row.N ks c.insert.new.self cs c.push_chunk.new.chunks.items c.args.index c.args.chunk c.self.invariant none c.in_ok-insert.ensures.ok (c.push_chunk.ensures ∙ ap (λ (xs : List (List ℕ)). xs ++ c.args.chunk ∷ []) c.in_ok-reserve.ensures.items))
    c.requires

pub returns-clause-sorted : goal.returns-clause-sorted
returns-clause-sorted g c = entries_sorted c.insert.new.self c.push_chunk.new.chunks.items
