-- A new node above a link.
use Rattle.std.proofs.Common.{◌≡◌, ◌≢◌, ℕ, zero, suc, ◌-◌, ◌/◌, ◌%◌, ◌^◌, List, slice_index, arith, refl, sym}
use Rattle.chunk_map.specs.declared.trie.Node.{Node}
use Rattle.chunk_map.specs.Trie.{Holds, node_at, base_of, top_of}
use Rattle.chunk_map.proofs.Digits.{apart_next}

-- a key that is not below a link differs from those below it, from their shift on
apart_by : (nodes : List Node) (keys : List ℕ) (link key odd : ℕ) → link % 2 ≡ odd → (link % 2 ≡ 1 → Holds (node_at nodes (link / 2)) key → ⊥) → (link % 2 ≡ 0 → slice_index keys (link / 2 - 1) ≢ key) → base_of nodes keys link odd / 2 ^ top_of nodes link odd ≢ key / 2 ^ top_of nodes link odd
apart_by nodes keys link key zero even stops other = λ e.
    let f : slice_index keys (link / 2 - 1) ≡ key = omega (arith, e) in
    other even f
apart_by nodes keys link key (suc odd) is stops other =
    apart_next (node_at nodes (link / 2)).base key (node_at nodes (link / 2)).shift (λ e. stops (omega (arith, is)) (sym e))

pub apart_at_top : (nodes : List Node) (keys : List ℕ) (link key : ℕ) → (link % 2 ≡ 1 → Holds (node_at nodes (link / 2)) key → ⊥) → (link % 2 ≡ 0 → slice_index keys (link / 2 - 1) ≢ key) → base_of nodes keys link (link % 2) / 2 ^ top_of nodes link (link % 2) ≢ key / 2 ^ top_of nodes link (link % 2)
apart_at_top nodes keys link key = apart_by nodes keys link key (link % 2) refl
