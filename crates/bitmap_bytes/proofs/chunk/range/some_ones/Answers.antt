use Rattle.std.proofs.Common.{◌+◌, ◌-◌, ◌%◌, min, refl, arith}
use Rattle.bitmap_bytes.specs.Chunk.{chunk_bit}
use Rattle.bitmap_bytes.proofs.Counting.Ones.{ones_from_le}
use Rattle.bitmap_bytes.proofs.Counting.Parts.{more_part, whole_part}
use Rattle.bitmap_bytes.proofs.chunk.range.some_ones.Goals as goal

pub overflow_add-total : goal.overflow_add-total
overflow_add-total g c =
    let f = chunk_bit g.row.N c.args.chunk.now in
    let at = c.loop-at.at in
    let step = min (64 - at % 64) (c.args.to - at) in
    let loop = c.loop-at.invariant in
    let m = more_part f c.args.from at c.args.to _ c.loop-at.total step loop.low c.loop-at-test.true c.part_word.type_inv c.part_word.ensures refl loop.total in
    omega (arith, m, ones_from_le f c.args.from (at + step - c.args.from), c.requires.within, c.requires.width.fits)

pub loop-at-preserved : goal.loop-at-preserved
loop-at-preserved g c =
    let f = chunk_bit g.row.N c.args.chunk.now in
    let loop = c.loop-at.invariant in
    record {
      low = omega (arith, loop.low);
      high = omega (arith, loop.high, c.min-at.ensures, c.loop-at-test.true);
      total =
          more_part f c.args.from c.loop-at.at c.args.to c.part_word.result c.loop-at.total _ loop.low c.loop-at-test.true c.part_word.type_inv c.part_word.ensures
          c.min-at.ensures loop.total;
    }

pub returns : goal.returns
returns g c =
    let loop = c.loop-at.invariant in
    whole_part (chunk_bit g.row.N c.args.chunk.now) c.args.from c.loop-at.at c.args.to c.loop-at.total loop.low loop.high c.loop-at-test.false loop.total
