use Rattle.std.proofs.Common.{ℕ, [], List, None, slice_index_or, subst, sym, ◌∙◌}
use Rattle.std.proofs.lemmas.Bool.{eqb-true}
use Rattle.chunk_map.specs.Entries.{entries_of}
use Rattle.chunk_map.specs.Trie.{IsAbsent, without_place}
use Rattle.historical_bitmap.specs.Index.{AreRows, PutsAt}
use Rattle.historical_bitmap.proofs.Index.Rows.{row_gone, row_kept, row_set, rows_gone}
use Rattle.historical_bitmap.proofs.bitmap.historical.kept_bytes.KeptBytes.remove.Goals as goal

pub returns-in_default : goal.returns-in_default
returns-in_default g c =
    let absent : IsAbsent c.self.inside.chunks c.args.chunk = rw c.in_default.is at c.find.ensures in
    subst (λ (v : List (ℕ × List (ℕ × List ℕ))). PutsAt v v c.args.chunk c.args.number None) c.self.view_is (row_kept c.self.inside.chunks c.self.inside.rows.items c.args.chunk c.args.number absent)

pub invariant_of-self : goal.invariant_of-self
invariant_of-self g c =
    let ks = c.self.inside.chunks in
    let rs = c.self.inside.rows.items in
    let place = c.in-Some.place in
    let row = slice_index_or c.remove_at.new.rows.items place [] in
    let d = c.swap_remove.result in
    rw (c.remove.ensures, c.swap_remove.ensures.items)
    (subst (λ mid. AreRows g.row.N (without_place ks place 0) (without_place mid place d)) (sym c.remove_at.ensures.rows) (rows_gone g.row.N ks rs place row d c.self.invariant c.in-Some.ensures.within))

pub returns-then-remove_at : goal.returns-then-remove_at
returns-then-remove_at g c =
    let ks = c.self.inside.chunks in
    let rs = c.self.inside.rows.items in
    let chunk = c.args.chunk in
    let number = c.args.number in
    let place = c.in-Some.place in
    let row = slice_index_or c.remove_at.new.rows.items place [] in
    let d = c.swap_remove.result in
    subst (λ (v : List (ℕ × List (ℕ × List ℕ))). PutsAt v (entries_of c.remove.new.self c.swap_remove.new.self.items) chunk number None) c.self.view_is
    (rw (c.remove.ensures, c.swap_remove.ensures.items)
    (subst (λ mid. PutsAt (entries_of ks rs) (entries_of (without_place ks place 0) (without_place mid place d)) chunk number None) (sym c.remove_at.ensures.rows)
    (row_gone ks rs chunk place c.self.invariant.apart c.self.invariant.sizes c.in-Some.ensures number row d c.remove_at.ensures.row (eqb-true _ 0 (sym c.remove_at.ensures.empty ∙ c.if-remove_at.true)))))

pub returns-else-remove_at : goal.returns-else-remove_at
returns-else-remove_at g c =
    let ks = c.self.inside.chunks in
    let rs = c.self.inside.rows.items in
    let chunk = c.args.chunk in
    let number = c.args.number in
    let place = c.in-Some.place in
    let row = slice_index_or c.remove_at.new.rows.items place [] in
    subst (λ (v : List (ℕ × List (ℕ × List ℕ))). PutsAt v (entries_of ks c.remove_at.new.rows.items) chunk number None) c.self.view_is
    (subst (λ mid. PutsAt (entries_of ks rs) (entries_of ks mid) chunk number None) (sym c.remove_at.ensures.rows)
    (row_set ks rs chunk place c.self.invariant.apart c.self.invariant.sizes c.in-Some.ensures number None row c.remove_at.ensures.row))
