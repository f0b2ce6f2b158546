use Rattle.std.proofs.Common.{◌≡◌, ℕ, ◌∷◌, [], List, None, Some, arith, subst}
use Rattle.std.specs.Map.{lookup}
use Rattle.std.specs.Prelude.{nat_eq}
use Rattle.chunk_map.specs.Entries.{entries_of}
use Rattle.chunk_map.specs.Trie.{IsAbsent}
use Rattle.historical_bitmap.specs.Index.{PutsAt}
use Rattle.historical_bitmap.proofs.Index.Rows.{absent_chunk, row_added, rows_added}
use Rattle.historical_bitmap.proofs.bitmap.historical.kept_bytes.KeptBytes.add_row.Goals as goal

pub insert-requires : goal.insert-requires
insert-requires g c =
    subst (λ (v : List (ℕ × List (ℕ × List ℕ))). lookup (nat_eq c.args.chunk) v ≡ None → IsAbsent c.self.inside.chunks c.args.chunk) c.self.view_is
    (λ none. absent_chunk c.self.inside.chunks c.self.inside.rows.items c.args.chunk c.self.invariant.apart c.self.invariant.sizes none)
    c.requires

pub invariant_of-self-2 : goal.invariant_of-self-2
invariant_of-self-2 g c =
    let ks = c.self.inside.chunks in
    let rs = c.self.inside.rows.items in
    let absent : IsAbsent ks c.args.chunk = subst (λ (v : List (ℕ × List (ℕ × List ℕ))). lookup (nat_eq c.args.chunk) v ≡ None → IsAbsent ks c.args.chunk) c.self.view_is (λ none. absent_chunk ks rs c.args.chunk c.self.invariant.apart c.self.invariant.sizes none) c.requires in
    rw (c.in_ok-insert.ensures.ok, c.push_row.ensures, c.in_ok-reserve.ensures.items, c.in_ok-row.ensures) (rows_added g.row.N ks rs c.args.chunk ((c.args.number, c.args.bytes) ∷ []) c.self.invariant absent (omega arith))

pub returns-clause-ok : goal.returns-clause-ok
returns-clause-ok g c =
    let ks = c.self.inside.chunks in
    let rs = c.self.inside.rows.items in
    let chunk = c.args.chunk in
    subst (λ (v : List (ℕ × List (ℕ × List ℕ))). lookup (nat_eq chunk) v ≡ None → PutsAt v (entries_of c.insert.new.self c.push_row.new.rows.items) chunk c.args.number (Some c.args.bytes)) c.self.view_is
    (λ none. rw (c.in_ok-insert.ensures.ok, c.push_row.ensures, c.in_ok-reserve.ensures.items, c.in_ok-row.ensures)
    (row_added ks rs chunk c.args.number c.args.bytes c.self.invariant.apart c.self.invariant.sizes none (absent_chunk ks rs chunk c.self.invariant.apart c.self.invariant.sizes none)))
    c.requires
