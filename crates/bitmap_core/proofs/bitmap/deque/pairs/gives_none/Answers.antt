use Rattle.std.proofs.Common.{◌++◌, arith}
use Rattle.bitmap_bytes.proofs.Counting.Pairs.{right_decides, left_decides}
use Rattle.bitmap_core.proofs.Chunks.Pairs.{as_many_bytes, parts_are, first_parts, chunks_decided}
use Rattle.bitmap_core.proofs.bitmap.deque.pairs.gives_none.Goals as goal

pub split_at-requires-2 : goal.split_at-requires-2
split_at-requires-2 g c =
    let a = c.bytes.ensures in
    let b = c.bytes-2.ensures in
    omega (arith, c.min-cut.ensures, as_many_bytes g.row.N c.args.a.now.items c.args.b.now.items c.bytes.result.0.now c.bytes.result.1.now c.bytes-2.result.0.now c.bytes-2.result.1.now c.requires.same a.known b.known a.items b.items)

pub run_gives_none-requires-then-run_gives_none : goal.run_gives_none-requires-then-run_gives_none
run_gives_none-requires-then-run_gives_none g c =
    let a = c.bytes.ensures in
    let b = c.bytes-2.ensures in
    let s = c.split_at.ensures in
    let t = c.split_at-2.ensures in
    omega (arith, c.min-cut.ensures, s.back_len, t.back_len, as_many_bytes g.row.N c.args.a.now.items c.args.b.now.items c.bytes.result.0.now c.bytes.result.1.now c.bytes-2.result.0.now c.bytes-2.result.1.now c.requires.same a.known b.known a.items b.items)

pub returns-then-run_gives_none : goal.returns-then-run_gives_none
returns-then-run_gives_none g c =
    let a = c.bytes.ensures in
    let b = c.bytes-2.ensures in
    let s = c.split_at.ensures in
    let t = c.split_at-2.ensures in
    let parts = parts_are _ _ _ _ _ _ _ _ _ c.min-cut.ensures s.by_index.0 t.by_index.0 b.items s.front_len t.front_len in
    chunks_decided g.row.N g.B.Bitwise.gives _ _ _ _ _ c.requires.positive a.known b.known a.items parts
    (right_decides g.B.Bitwise.gives c.bytes.result.0.now c.bytes.result.1.now (c.split_at.result.0.now ++ c.split_at-2.result.0.now) (c.split_at.result.1.now ++ c.split_at-2.result.1.now) g.B.Bitwise.keeps_zeros (first_parts _ _ _ _ _ c.min-cut.ensures s.front_len t.front_len) _ _ c.run_gives_none.ensures c.if-run_gives_none.true c.run_gives_none-then-run_gives_none.ensures)

pub returns-else-run_gives_none : goal.returns-else-run_gives_none
returns-else-run_gives_none g c =
    let a = c.bytes.ensures in
    let b = c.bytes-2.ensures in
    let s = c.split_at.ensures in
    let t = c.split_at-2.ensures in
    let parts = parts_are _ _ _ _ _ _ _ _ _ c.min-cut.ensures s.by_index.0 t.by_index.0 b.items s.front_len t.front_len in
    chunks_decided g.row.N g.B.Bitwise.gives _ _ _ _ _ c.requires.positive a.known b.known a.items parts
    (left_decides g.B.Bitwise.gives c.bytes.result.0.now c.bytes.result.1.now (c.split_at.result.0.now ++ c.split_at-2.result.0.now) (c.split_at.result.1.now ++ c.split_at-2.result.1.now) g.B.Bitwise.keeps_zeros (first_parts _ _ _ _ _ c.min-cut.ensures s.front_len t.front_len) _ c.run_gives_none.ensures c.if-run_gives_none.false)
