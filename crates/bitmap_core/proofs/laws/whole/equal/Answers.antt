use Rattle.std.proofs.Common.{sym, ◌∙◌}
use Rattle.std.specs.Cmp.{booleans_Decides}
use Rattle.std.specs.Cmp.Lexicographic.{pointwise_decides}
use Rattle.bitmap_core.proofs.laws.whole.equal.Goals as goal

pub returns : goal.returns
returns g c =
    let d = pointwise_decides booleans_Decides c.args.a.now c.args.b.now in
    (λ e. d.0 (sym c.eq.ensures ∙ e), λ e. c.eq.ensures ∙ d.1 e)
