use Rattle.std.proofs.Common.{Bool, not, ◌&&◌, ◌||◌}
use Rattle.bitmap_core.proofs.Lists.Pairs.{pairs_decide, subset_test, subset_decided}
use Rattle.bitmap_core.proofs.laws.bitwise.subset_at_each_position.Goals as goal

pub returns : goal.returns
returns g c =
    subset_decided _ _ _ (pairs_decide (λ x y. x && not y) (λ (p : Bool × Bool). not p.0 || p.1) subset_test c.args.a.now c.args.b.now _ c.requires c.is_subset.ensures)
