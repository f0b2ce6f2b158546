use Rattle.std.proofs.Common.{ℕ, List, subst, sym}
use Rattle.chunk_map.specs.Ascending.{AppendsKeys, IsAscendingOf}
use Rattle.chunk_map.proofs.Ordered.{trie_keys}
use Rattle.chunk_map.proofs.places.Places.ascending.Goals as goal

pub returns : goal.returns
returns c =
    subst (λ (keys : List ℕ). IsAscendingOf keys c.append_keys.new.out.items) c.self.view_is
    (trie_keys _ _ _ _ c.self.invariant
    (subst (λ (old : List ℕ). AppendsKeys c.self.inside.nodes.items c.self.inside.keys.items c.self.inside.root old c.append_keys.new.out.items) c.in_ok-keys.ensures.items (rw (sym c.deref.ensures.value, sym c.deref-2.ensures.value) c.in_ok-append_keys.ensures)))
