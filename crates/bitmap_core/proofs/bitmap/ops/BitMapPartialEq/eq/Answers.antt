use Rattle.bitmap_core.proofs.Lists.Equality.{same_values, other_lengths}
use Rattle.bitmap_core.proofs.bitmap.ops.BitMapPartialEq.eq.Goals as goal

pub returns-then-self-other : goal.returns-then-self-other
returns-then-self-other g c =
    same_values _ _ _ _ _ _ _ _ c.self.view_is c.other.view_is c.if-self-other.true c.self.invariant.zero c.other.invariant.zero c.are_equal.ensures

pub returns-else-self-other : goal.returns-else-self-other
returns-else-self-other g c =
    other_lengths g.row.N c.self.inside.chunks.items c.other.inside.chunks.items _ _ _ _ c.self.view_is c.other.view_is c.if-self-other.false
