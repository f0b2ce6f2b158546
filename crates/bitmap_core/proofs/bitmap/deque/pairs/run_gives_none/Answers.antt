use Rattle.bitmap_bytes.proofs.Counting.Pairs.{right_decides, left_decides}
use Rattle.bitmap_core.proofs.bitmap.deque.pairs.run_gives_none.Goals as goal

pub returns-then-gives_none : goal.returns-then-gives_none
returns-then-gives_none g c =
    let s = c.split_at.ensures in
    rw s.by_index.0 (right_decides g.B.Bitwise.gives _ _ _ _ g.B.Bitwise.keeps_zeros s.front_len _ _ c.gives_none.ensures c.if-gives_none.true c.gives_none-then-gives_none.ensures)

pub returns-else-gives_none : goal.returns-else-gives_none
returns-else-gives_none g c =
    let s = c.split_at.ensures in
    rw s.by_index.0 (left_decides g.B.Bitwise.gives _ _ _ _ g.B.Bitwise.keeps_zeros s.front_len _ c.gives_none.ensures c.if-gives_none.false)
