use Rattle.std.proofs.Common.{ℕ, List, refl, sym, subst}
use Rattle.std.specs.Prelude.{Result}
use Rattle.bitmap_c.specs.Pages.{IsPage, ReturnsPage}
use Rattle.bitmap_c.proofs.Kept.{read_changes}
use Rattle.bitmap_c.proofs.commits.changes_of.Goals as goal

pub returns : goal.returns
returns g c =
    let a = c.args in
    let kept = read_changes g.row.N a.session.now a.from a.to a.first c.in-Some.chunks c.in-Some.ensures.value in
    let page = subst (λ (left : List ℕ). IsPage left c.write_page.result a.out.now c.write_page.new.out) c.skip_below.ensures c.write_page.ensures in
    subst (λ (read : Result (List ℕ) ℕ). ReturnsPage 0 a.count.now c.write_page.result a.out.now c.write_page.new.out read) (sym kept)
    (record { status_is = refl; page_is = page })
