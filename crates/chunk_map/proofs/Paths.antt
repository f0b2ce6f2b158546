-- Paths from link to link.
use Rattle.std.proofs.Common.{◌≡◌, ℕ, zero, suc, ◌+◌, ◌*◌, ◌/◌, ◌%◌, List, slice_index, arith, refl, sym, subst}
use Rattle.chunk_map.specs.declared.trie.Node.{Node}
use Rattle.chunk_map.specs.Trie.{AreApart, IsNode, IsTrie, Holds, Leads, Finds, Reaches, IsWay, node_at, link_for}

-- what is found from a node's link is found from the next link
pub finds_next : (nodes : List Node) (keys : List ℕ) (key place link : ℕ) → link % 2 ≡ 1 → Finds nodes keys key place link → Finds nodes keys key place (link_for (node_at nodes (link / 2)) key)
finds_next nodes keys key place link odd (zero, f) = let e = f.1 in absurd (omega (arith, e))
finds_next nodes keys key place link odd (suc steps, f) = (steps, f.2)

-- what is found from a link that is no node's is there
pub finds_place : (nodes : List Node) (keys : List ℕ) (key place link : ℕ) → link % 2 ≡ 0 → Finds nodes keys key place link → link ≡ 2 * place + 2
finds_place nodes keys key place link even (zero, f) = f.1
finds_place nodes keys key place link even (suc steps, f) = let e = f.0.odd in absurd (omega (arith, e))

-- a key is found at one place only
same_place : (nodes : List Node) (keys : List ℕ) (key p q steps others link : ℕ) → Leads nodes keys key p steps link → Leads nodes keys key q others link → p ≡ q
same_place nodes keys key p q zero zero link f g = let e = f.1 in let h = g.1 in omega (arith, e, h)
same_place nodes keys key p q zero (suc others) link f g = let e = f.1 in let o = g.0.odd in absurd (omega (arith, e, o))
same_place nodes keys key p q (suc steps) zero link f g = let e = g.1 in let o = f.0.odd in absurd (omega (arith, e, o))
same_place nodes keys key p q (suc steps) (suc others) link f g = same_place nodes keys key p q steps others (link_for (node_at nodes (link / 2)) key) f.2 g.2

-- the keys of a trie are distinct
pub trie_apart : (nodes : List Node) (keys : List ℕ) (root : ℕ) → IsTrie nodes keys root → AreApart keys
trie_apart nodes keys root t p q hp hq e =
    let f = t.found p hp in
    let g = subst (λ key. Finds nodes keys key q root) (sym e) (t.found q hq) in
    same_place nodes keys (slice_index keys p) p q f.0 g.0 root f.1 g.1

-- one more node
reaches_more : (nodes : List Node) (key link : ℕ) → IsNode nodes link → Holds (node_at nodes (link / 2)) key → (steps first : ℕ) → Reaches nodes key link steps first → Reaches nodes key (link_for (node_at nodes (link / 2)) key) (suc steps) first
reaches_more nodes key link n h zero first e =
    let P : ℕ → Type 0 = λ l. IsNode nodes l × Holds (node_at nodes (l / 2)) key × (link_for (node_at nodes (l / 2)) key ≡ link_for (node_at nodes (link / 2)) key) in
    subst P (sym e) (n, h, refl)
reaches_more nodes key link n h (suc steps) first r = (r.0, r.1, reaches_more nodes key link n h steps (link_for (node_at nodes (first / 2)) key) r.2)

-- the walk at a node's link, one node further
pub way_next : (nodes : List Node) (root key owner link : ℕ) → IsNode nodes link → Holds (node_at nodes (link / 2)) key → IsWay nodes root key owner link → IsWay nodes root key link (link_for (node_at nodes (link / 2)) key)
way_next nodes root key owner zero n h w = let e = n.odd in absurd (omega (arith, e))
way_next nodes root key zero (suc link) n h w = (n, h, refl, (0, sym w))
way_next nodes root key (suc owner) (suc link) n h w =
    let r : Reaches nodes key (link_for (node_at nodes (suc owner / 2)) key) (suc w.3.0) root = reaches_more nodes key (suc owner) w.0 w.1 w.3.0 root w.3.1 in
    (n, h, refl, (suc w.3.0, subst (λ t. Reaches nodes key t (suc w.3.0) root) (sym w.2) r))
