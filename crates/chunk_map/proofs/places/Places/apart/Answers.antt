use Rattle.std.proofs.Common.{ℕ, List, subst}
use Rattle.chunk_map.specs.Trie.{AreApart}
use Rattle.chunk_map.proofs.Paths.{trie_apart}
use Rattle.chunk_map.proofs.places.Places.apart.Goals as goal

pub returns : goal.returns
returns c = subst (λ (v : List ℕ). AreApart v) c.self.view_is (trie_apart _ _ _ c.self.invariant)
