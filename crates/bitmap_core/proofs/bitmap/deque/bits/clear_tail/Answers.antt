use Rattle.bitmap_bytes.proofs.Chunks.Lists.{IsZeroFrom-cleared, IsZeroFrom-full}
use Rattle.bitmap_core.proofs.bitmap.deque.bits.clear_tail.Goals as goal

pub returns-then-from-ne0-clause-zero : goal.returns-then-from-ne0-clause-zero
returns-then-from-ne0-clause-zero g c =
    let positive = c.requires.width.positive in
    let width = c.chunk_width.ensures in
    let index = c.chunk_index.ensures in
    rw index (IsZeroFrom-cleared _ _ _ _ positive c.requires.count (rw width at c.if-from-ne0.true) (rw width at c.clear_from.ensures.above))

pub returns-else-from-ne0-clause-zero : goal.returns-else-from-ne0-clause-zero
returns-else-from-ne0-clause-zero g c =
    IsZeroFrom-full _ _ _ c.requires.width.positive c.requires.count (rw c.chunk_width.ensures at c.if-from-ne0.false)
