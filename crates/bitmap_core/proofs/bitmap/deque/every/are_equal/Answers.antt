use Rattle.bitmap_core.proofs.Chunks.Equal.{same_bits_decided, lists_decided, lists_decided_back}
use Rattle.bitmap_core.proofs.bitmap.deque.every.are_equal.Goals as goal

pub returns-then-a_front-b_front : goal.returns-then-a_front-b_front
returns-then-a_front-b_front g c =
    let others = c.slices-2.ensures in
    let slices = c.slices.ensures in
    same_bits_decided _ _ _ _ c.requires.positive c.requires.same slices.known others.known
    (lists_decided _ _ _ _ _ slices.items others.items c.runs_equal.ensures)

pub returns-else-a_front-b_front : goal.returns-else-a_front-b_front
returns-else-a_front-b_front g c =
    let others = c.slices-2.ensures in
    let slices = c.slices.ensures in
    same_bits_decided _ _ _ _ c.requires.positive c.requires.same slices.known others.known
    (lists_decided_back _ _ _ _ _ slices.items others.items c.runs_equal-else-a_front-b_front.ensures)
