use Rattle.std.proofs.Common.{Bool, not, ◌&&◌, refl}
use Rattle.bitmap_core.proofs.Lists.Pairs.{pairs_result}
use Rattle.bitmap_core.proofs.bitmap.BitMap.is_disjoint.Goals as goal

pub returns : goal.returns
returns g c = pairs_result (λ x y. x && y) (λ (p : Bool × Bool). not (p.0 && p.1)) (λ x y. refl) _ _ _ c.requires c.gives_none.ensures
