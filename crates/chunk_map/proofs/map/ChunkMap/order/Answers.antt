use Rattle.std.proofs.Common.{◌≡◌, ℕ, subst}
use Rattle.std.specs.List.Sorted.{IsStrictlySortedBy}
use Rattle.std.specs.Map.{keys_of, lookup}
use Rattle.std.specs.Ordering.{nat_cmp}
use Rattle.std.specs.Prelude.{nat_eq, IsSome}
use Rattle.std.specs.Set.{is_member}
use Rattle.chunk_map.specs.Entries.{ChunkEntries}
use Rattle.chunk_map.specs.Trie.{AreApart, IsAt}
use Rattle.chunk_map.proofs.EntryLists.{entries_sorted, indices_are, place_of}
use Rattle.chunk_map.proofs.map.ChunkMap.order.Goals as goal

pub returns-clause-sorted : goal.returns-clause-sorted
returns-clause-sorted g c = subst (λ (v : ChunkEntries). IsStrictlySortedBy nat_cmp (keys_of v.entries)) c.self.view_is (entries_sorted c.self.inside.places c.self.inside.chunks.items)

pub returns-clause-places : goal.returns-clause-places
returns-clause-places g c =
    subst (λ (v : ChunkEntries). (index : ℕ) → IsSome (lookup (nat_eq index) v.entries) → (place : ℕ) × IsAt v.indices index place) c.self.view_is
    (λ index some. place_of c.self.inside.places c.self.inside.chunks.items index some)

pub returns-clause-apart : goal.returns-clause-apart
returns-clause-apart g c = subst (λ (v : ChunkEntries). AreApart v.indices) c.self.view_is c.self.invariant.apart

pub returns-clause-members : goal.returns-clause-members
returns-clause-members g c =
    subst (λ (v : ChunkEntries). (index : ℕ) → is_member nat_eq v.indices index ≡ is_member nat_eq (keys_of v.entries) index) c.self.view_is
    (indices_are c.self.inside.places c.self.inside.chunks.items c.self.invariant.apart c.self.invariant.sizes)
