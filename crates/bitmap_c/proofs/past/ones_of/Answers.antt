use Rattle.std.proofs.Common.{ℕ, List, refl, sym, subst}
use Rattle.std.specs.Prelude.{Result}
use Rattle.bitmap_c.specs.Pages.{ReturnsPage, ones_read}
use Rattle.bitmap_c.proofs.Kept.{read_kept}
use Rattle.bitmap_c.proofs.past.ones_of.Goals as goal

pub returns : goal.returns
returns g c =
    let a = c.args in
    let kept = read_kept {A = List ℕ} g.row.N a.session.now a.number c.in-Some.bitmap (λ N b. ones_read N b a.from a.to) c.in-Some.ensures in
    subst (λ (read : Result (List ℕ) ℕ). ReturnsPage 0 a.count.now c.write_ones.result a.out.now c.write_ones.new.out read) (sym kept)
    (record { status_is = refl; page_is = c.write_ones.ensures })
