use Rattle.std.proofs.Common.{Bool, not, ◌&&◌, ◌||◌}
use Rattle.bitmap_core.proofs.Lists.Pairs.{pairs_result, subset_test}
use Rattle.bitmap_core.proofs.bitmap.BitMap.is_subset.Goals as goal

pub returns : goal.returns
returns g c = pairs_result (λ x y. x && not y) (λ (p : Bool × Bool). not p.0 || p.1) subset_test _ _ _ c.requires c.gives_none.ensures
