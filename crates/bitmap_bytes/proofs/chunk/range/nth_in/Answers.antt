use Rattle.std.proofs.Common.{refl, arith}
use Rattle.bitmap_bytes.specs.Chunk.{chunk_bit}
use Rattle.bitmap_bytes.proofs.Counting.Parts.{more_part, whole_part, nth_found}
use Rattle.bitmap_bytes.proofs.chunk.range.nth_in.Goals as goal

pub returns-then-left-count : goal.returns-then-left-count
returns-then-left-count g c =
    let loop = c.loop-at.invariant in
    nth_found (chunk_bit g.row.N c.args.chunk.now) c.args.from c.loop-at.at c.args.to c.part_word-word.result c.loop-at.left c.args.k c.nth_one.result
    loop.low c.loop-at-test.true c.part_word-word.ensures loop.counted c.nth_one.ensures

pub loop-at-preserved : goal.loop-at-preserved
loop-at-preserved g c =
    let loop = c.loop-at.invariant in
    record {
      low = omega (arith, loop.low);
      high = omega (arith, loop.high, c.min-at.ensures, c.loop-at-test.true);
      counted = omega (
        arith,
        more_part (chunk_bit g.row.N c.args.chunk.now) c.args.from c.loop-at.at c.args.to c.part_word-word.result _ _ loop.low c.loop-at-test.true c.part_word-word.type_inv
            c.part_word-word.ensures c.min-at.ensures refl,
        loop.counted,
        c.if-left-count.false,
      );
    }

pub returns : goal.returns
returns g c =
    let loop = c.loop-at.invariant in
    let all = whole_part (chunk_bit g.row.N c.args.chunk.now) c.args.from c.loop-at.at c.args.to _ loop.low loop.high c.loop-at-test.false refl in
    omega (arith, all, loop.counted)
