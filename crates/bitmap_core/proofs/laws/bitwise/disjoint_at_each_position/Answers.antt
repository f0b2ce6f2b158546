use Rattle.std.proofs.Common.{Bool, not, ◌&&◌, refl}
use Rattle.bitmap_core.proofs.Lists.Pairs.{pairs_decide, disjoint_decided}
use Rattle.bitmap_core.proofs.laws.bitwise.disjoint_at_each_position.Goals as goal

pub returns : goal.returns
returns g c =
    disjoint_decided _ _ _ (pairs_decide (λ x y. x && y) (λ (p : Bool × Bool). not (p.0 && p.1)) (λ x y. refl) c.args.a.now c.args.b.now _ c.requires c.is_disjoint.ensures)
