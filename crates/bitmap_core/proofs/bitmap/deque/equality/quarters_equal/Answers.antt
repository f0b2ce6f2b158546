use Rattle.std.proofs.Common.{◌≡◌, refl, arith}
use Rattle.bitmap_core.proofs.Chunks.Quarters.{quarters_joined}
use Rattle.bitmap_core.proofs.bitmap.deque.equality.quarters_equal.Goals as goal

pub returns : goal.returns
returns c =
    let all : c.loop-i.i ≡ c.args.count = omega arith in
    (λ q. quarters_joined _ _ c.args.count c.requires.four c.requires.same (rw all at c.loop-i.invariant), λ e. refl)
