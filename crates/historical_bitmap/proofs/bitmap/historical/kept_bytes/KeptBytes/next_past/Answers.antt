use Rattle.std.proofs.Common.{ℕ, List, None, refl, subst, sym}
use Rattle.std.specs.Prelude.{option_copied}
use Rattle.historical_bitmap.specs.Index.{IsNextIn, IsNextKept}
use Rattle.historical_bitmap.proofs.Index.Rows.{row_none, row_read}
use Rattle.historical_bitmap.proofs.bitmap.historical.kept_bytes.KeptBytes.next_past.Goals as goal

pub returns-in-Some : goal.returns-in-Some
returns-in-Some g c =
    let next = option_copied c.next_past.result in
    subst (λ (v : List (ℕ × List (ℕ × List ℕ))). IsNextKept v c.args.chunk c.args.number next) c.self.view_is
    (subst (λ row. IsNextIn row c.args.number next) (sym (row_read c.self.inside.chunks c.self.inside.rows.items c.args.chunk c.in-Some.place c.self.invariant.apart c.self.invariant.sizes c.in-Some.ensures c.index.result.now c.index.ensures)) c.next_past.ensures)

pub returns-in-None : goal.returns-in-None
returns-in-None g c =
    subst (λ (v : List (ℕ × List (ℕ × List ℕ))). IsNextKept v c.args.chunk c.args.number None) c.self.view_is
    (subst (λ row. IsNextIn row c.args.number None) (sym (row_none c.self.inside.chunks c.self.inside.rows.items c.args.chunk c.in-None.ensures)) (λ m l. refl))
