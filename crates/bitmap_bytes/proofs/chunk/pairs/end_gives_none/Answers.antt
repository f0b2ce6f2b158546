use Rattle.std.proofs.Common.{arith}
use Rattle.bitmap_bytes.proofs.Counting.Pairs.{rest_decides, blocks_decide}
use Rattle.bitmap_bytes.proofs.chunk.pairs.end_gives_none.Goals as goal

pub returns-then-blocks_give_none : goal.returns-then-blocks_give_none
returns-then-blocks_give_none g c =
    let a = c.as_chunks.ensures in
    let b = c.as_chunks-2.ensures in
    rest_decides 8 g.B.Bitwise.gives _ _ _ _ _ _ (omega arith) g.B.Bitwise.keeps_zeros c.requires a.front b.front a.back b.back a.front_len b.front_len _ _
    c.blocks_give_none.ensures c.if-blocks_give_none.true c.bytes_give_none.ensures

pub returns-else-blocks_give_none : goal.returns-else-blocks_give_none
returns-else-blocks_give_none g c =
    let a = c.as_chunks.ensures in
    let b = c.as_chunks-2.ensures in
    blocks_decide 8 g.B.Bitwise.gives _ _ _ _ _ _ (omega arith) g.B.Bitwise.keeps_zeros c.requires a.front b.front a.back b.back a.front_len b.front_len _
    c.blocks_give_none.ensures c.if-blocks_give_none.false
