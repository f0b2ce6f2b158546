use Rattle.bitmap_bytes.proofs.Counting.Pairs.{decided_no, none_gives_zero_byte}
use Rattle.bitmap_bytes.proofs.chunk.pairs.bytes_give_none.Goals as goal

pub returns-then-of_bytes-ne0 : goal.returns-then-of_bytes-ne0
returns-then-of_bytes-ne0 g c =
    decided_no _ (λ h. c.if-of_bytes-ne0.true
    (none_gives_zero_byte g.B.Bitwise.gives c.args.a.now c.args.b.now c.loop-i.i c.of_bytes.result c.of_bytes.type_inv c.of_bytes.ensures h))
