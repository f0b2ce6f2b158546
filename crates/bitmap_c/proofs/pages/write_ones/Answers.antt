use Rattle.std.proofs.Common.{ℕ, List, subst}
use Rattle.bitmap_c.specs.Pages.{IsPage}
use Rattle.bitmap_c.proofs.pages.write_ones.Goals as goal

pub returns : goal.returns
returns g c =
    let P : List ℕ → Type 0 = λ all. IsPage all c.write_page.result c.args.out.now c.write_page.new.out in
    subst P c.ones_iter_range.ensures.positions c.write_page.ensures
