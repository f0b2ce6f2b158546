-- Nodes with one link replaced.
use Rattle.std.proofs.Common.{◌≡◌, ◌≢◌, ℕ, zero, suc, ◌+◌, ◌*◌, ◌/◌, ◌%◌, ◌<◌, ◌≤◌, List, [], ◌∷◌, ◌++◌, length, slice_index, arith, refl, sym, ap, ◌∙◌, subst}
use mathlib.Core.Logic.{inl, inr}
use Rattle.std.proofs.lemmas.Bool.{cases_eq}
use Rattle.std.proofs.lemmas.List.{get_or-set_same, get_or-set_other, get_or_append_left, get_or_push, length-set}
use Rattle.chunk_map.specs.declared.trie.Node.{Node}
use Rattle.chunk_map.specs.Trie.{AreMarked, Holds, IsForest, IsWay, Relinks, digit_in, linked, node_at, relinked}
use Rattle.chunk_map.proofs.Marks.{marks_set}

-- a node before others
pub node_before : (nodes : List Node) (node : Node) (c : ℕ) → c < length nodes → node_at (nodes ++ node ∷ []) c ≡ node_at nodes c
node_before nodes node c h = get_or_append_left nodes (node ∷ []) (record { links = []; base = 0; shift = 0; used = 0 }) c h

-- the last node
pub node_last : (nodes : List Node) (node : Node) → node_at (nodes ++ node ∷ []) (length nodes) ≡ node
node_last nodes node = get_or_push nodes node (record { links = []; base = 0; shift = 0; used = 0 }) (length nodes) refl

pub length_relinked : (nodes : List Node) (owner key link : ℕ) → length (relinked nodes owner key link) ≡ length nodes
length_relinked nodes zero key link = refl
length_relinked nodes (suc owner) key link = length-set nodes (suc owner / 2) (linked (node_at nodes (suc owner / 2)) key link)

-- the owner on a way is a node's link, or 0
pub way_odd : (nodes : List Node) (root key owner link : ℕ) → IsWay nodes root key owner link → 0 < owner → (owner % 2 ≡ 1) × (owner / 2 < length nodes)
way_odd nodes root key zero link w h = absurd (omega (arith, h))
way_odd nodes root key (suc owner) link w h = (w.0.odd, w.0.within)

-- the node of the owner holds the key
pub way_holds : (nodes : List Node) (root key owner link : ℕ) → IsWay nodes root key owner link → (c : ℕ) → 2 * c + 1 ≡ owner → Holds (node_at nodes c) key
way_holds nodes root key zero link w c e = absurd (omega (arith, e))
way_holds nodes root key (suc owner) link w c e =
    let same : suc owner / 2 ≡ c = omega (arith, e) in
    subst (λ x. Holds (node_at nodes x) key) same w.1

-- a node that is not the owner's stays
pub other_node : (nodes : List Node) (owner key link c : ℕ) → (0 < owner → owner % 2 ≡ 1) → 2 * c + 1 ≢ owner → node_at (relinked nodes owner key link) c ≡ node_at nodes c
other_node nodes zero key link c odd ne = refl
other_node nodes (suc owner) key link c odd ne =
    let o : suc owner % 2 ≡ 1 = odd (omega arith) in
    get_or-set_other nodes (suc owner / 2) c (linked (node_at nodes (suc owner / 2)) key link) (record { links = []; base = 0; shift = 0; used = 0 }) (λ e. ne (omega (arith, e, o)))

-- the owner's node has the link
owner_node : (nodes : List Node) (owner key link c : ℕ) → c < length nodes → 2 * c + 1 ≡ owner → node_at (relinked nodes owner key link) c ≡ linked (node_at nodes c) key link
owner_node nodes zero key link c h e = absurd (omega (arith, e))
owner_node nodes (suc owner) key link c h e =
    let same : suc owner / 2 ≡ c = omega (arith, e) in
    rw same (get_or-set_same nodes c (linked (node_at nodes c) key link) (record { links = []; base = 0; shift = 0; used = 0 }) h)

-- nodes of which the old ones are the first, with one link replaced
pub relinks : (old more : List Node) (owner key link : ℕ) → IsForest old → length old ≤ length more → ((c : ℕ) → c < length old → node_at more c ≡ node_at old c) → (0 < owner → owner % 2 ≡ 1) → Relinks old (relinked more owner key link) owner key link
relinks old more owner key link forest longer first odd =
    let new = relinked more owner key link in
    let mine : (c : ℕ) → c < length old → 2 * c + 1 ≡ owner → node_at new c ≡ linked (node_at old c) key link = λ c h e. owner_node more owner key link c (omega (arith, h, longer)) e ∙ ap (λ n. linked n key link) (first c h) in
    let other : (c : ℕ) → c < length old → 2 * c + 1 ≢ owner → node_at new c ≡ node_at old c = λ c h ne. other_node more owner key link c odd ne ∙ first c h in
    record {
      longer = rw (length_relinked more owner key link) longer;
      base = λ c h. elim (cases_eq (2 * c + 1) owner) [ inl e ↦ ap (λ (n : Node). n.base) (mine c h e) | inr ne ↦ ap (λ (n : Node). n.base) (other c h ne) ];
      shift = λ c h. elim (cases_eq (2 * c + 1) owner) [ inl e ↦ ap (λ (n : Node). n.shift) (mine c h e) | inr ne ↦ ap (λ (n : Node). n.shift) (other c h ne) ];
      size = λ c h. elim (cases_eq (2 * c + 1) owner) [
        | inl e ↦ ap (λ (n : Node). length n.links) (mine c h e) ∙ length-set (node_at old c).links (digit_in (node_at old c) key) link ∙ (forest c h).size
        | inr ne ↦ ap (λ (n : Node). length n.links) (other c h ne) ∙ (forest c h).size
      ];
      used = λ c h. elim (cases_eq (2 * c + 1) owner) [
        | inl e ↦ subst (λ (n : Node). AreMarked n.links n.used) (sym (mine c h e)) (marks_set (node_at old c).links (node_at old c).used (digit_in (node_at old c) key) link (forest c h).size (omega arith) (forest c h).used)
        | inr ne ↦ subst (λ (n : Node). AreMarked n.links n.used) (sym (other c h ne)) (forest c h).used
      ];
      links = λ c digit h d. elim (cases_eq (2 * c + 1) owner) [
        | inl e ↦ elim (cases_eq digit (digit_in (node_at old c) key)) [
          | inl same ↦
              let size = (forest c h).size in
              let P : ℕ → Type 0 = λ x. slice_index (linked (node_at old c) key link).links x ≡ link in
              inl (e, same, ap (λ (n : Node). slice_index n.links digit) (mine c h e) ∙ subst P (sym same) (get_or-set_same (node_at old c).links (digit_in (node_at old c) key) link 0 (omega (arith, size))))
          | inr ne ↦ inr (λ f g. ne g, ap (λ (n : Node). slice_index n.links digit) (mine c h e) ∙ get_or-set_other (node_at old c).links (digit_in (node_at old c) key) digit link 0 ne)
        ]
        | inr ne ↦ inr (λ f g. ne f, ap (λ (n : Node). slice_index n.links digit) (other c h ne))
      ];
    }
