use Rattle.std.proofs.Common.{◌≡◌, None, MatchOption, subst}
use Rattle.std.specs.Map.{lookup}
use Rattle.std.specs.Prelude.{nat_eq}
use Rattle.std.specs.Prelude.{is_some}
use Rattle.chunk_map.specs.Trie.{IsAt}
use Rattle.chunk_map.specs.Entries.{ChunkEntries}
use Rattle.chunk_map.proofs.EntryLists.{find_match, find_some}
use Rattle.chunk_map.proofs.map.ChunkMap.find.Goals as goal

pub returns-clause-place : goal.returns-clause-place
returns-clause-place g c =
    subst (λ (v : ChunkEntries). MatchOption c.find.result (lookup (nat_eq c.args.index) v.entries ≡ None) (IsAt v.indices c.args.index)) c.self.view_is
    (find_match c.self.inside.places c.self.inside.chunks.items c.args.index c.find.result c.find.ensures)

pub returns-clause-found : goal.returns-clause-found
returns-clause-found g c =
    subst (λ (v : ChunkEntries). is_some c.find.result ≡ is_some (lookup (nat_eq c.args.index) v.entries)) c.self.view_is
    (find_some c.self.inside.places c.self.inside.chunks.items c.args.index c.find.result c.self.invariant.apart c.self.invariant.sizes c.find.ensures)
