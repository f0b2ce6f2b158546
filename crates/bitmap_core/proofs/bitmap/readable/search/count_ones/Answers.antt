use Rattle.std.proofs.Common.{◌≡◌, ◌+◌, ◌-◌, ◌*◌, ◌∙◌, length, true, sym, ap, arith}
use Rattle.bitmap_bytes.proofs.Counting.Ones.{ones_from, ones_from_le}
use Rattle.bitmap_core.proofs.Searches.{IsTurn, count_more, length-ones}
use Rattle.bitmap_core.proofs.Slices.{chunks_more}
use Rattle.bitmap_core.proofs.bitmap.readable.search.count_ones.Goals as goal

pub overflow_add-total : goal.overflow_add-total
overflow_add-total g c =
    let m = g.B.Readable.meaning c.args.readable.now in
    let turn : IsTurn g.row.N (g.B.Readable.meaning c.args.readable.now) c.args.first c.loop-at.at c.args.end c.min-step.result c.get_chunk-chunk.result =
    record {
      positive = c.requires.lawful.width.positive;
      low = c.loop-at.invariant.low;
      below = c.loop-at-test.true;
      within = c.requires.within;
      step_is = c.min-step.ensures;
      shown = rw c.chunk_index.ensures at c.get_chunk-chunk.ensures;
    } in
    let t = count_more g.row.N m _ _ _ _ _ turn c.ones_in-total.result c.ones_in-total.ensures in
    omega (
      arith,
      t,
      c.loop-at.invariant.total,
      ones_from_le m.bit c.args.first (c.loop-at.at + c.min-step.result - c.args.first),
      c.min-step.ensures,
      c.loop-at-test.true,
      c.ranges.end.fits,
    )

pub overflow_add-total-in-loop-at : goal.overflow_add-total-in-loop-at
overflow_add-total-in-loop-at g c =
    let m = g.B.Readable.meaning c.args.readable.now in
    let turn : IsTurn g.row.N (g.B.Readable.meaning c.args.readable.now) c.args.first c.loop-at.at c.args.end c.min-step.result c.get_chunk-chunk.result =
    record {
      positive = c.requires.lawful.width.positive;
      low = c.loop-at.invariant.low;
      below = c.loop-at-test.true;
      within = c.requires.within;
      step_is = c.min-step.ensures;
      shown = rw c.chunk_index.ensures at c.get_chunk-chunk.ensures;
    } in
    let at = c.loop-at.at + c.min-step.result in
    let size = 8 * g.row.N * length c.slice_from-chunks.result.now in
    omega (
      arith,
      count_more g.row.N m _ _ _ _ _ turn c.ones_in-total.result c.ones_in-total.ensures,
      chunks_more g.row.N m true c.args.first at size _ _ (omega (arith, c.loop-at.invariant.low)) c.slice_from-chunks.ensures.bits c.wanted_in-total.ensures,
      c.loop-at.invariant.total,
      ones_from_le m.bit c.args.first (at + size - c.args.first),
      c.slice_from-chunks.ensures.within,
      c.ranges.end.fits,
    )

pub loop-at-preserved : goal.loop-at-preserved
loop-at-preserved g c =
    let m = g.B.Readable.meaning c.args.readable.now in
    let loop = c.loop-at.invariant in
    let turn : IsTurn g.row.N (g.B.Readable.meaning c.args.readable.now) c.args.first c.loop-at.at c.args.end c.min-step.result c.get_chunk-chunk.result =
    record {
      positive = c.requires.lawful.width.positive;
      low = loop.low;
      below = c.loop-at-test.true;
      within = c.requires.within;
      step_is = c.min-step.ensures;
      shown = rw c.chunk_index.ensures at c.get_chunk-chunk.ensures;
    } in
    let run = c.slice_from-chunks.ensures in
    record {
      low = omega (arith, loop.low);
      high = omega (arith, loop.high, c.min-step.ensures, c.loop-at-test.true, run.within);
      total =
          omega (
            arith,
            loop.total,
            count_more g.row.N m _ _ _ _ _ turn c.ones_in-total.result c.ones_in-total.ensures,
            chunks_more g.row.N m true c.args.first (c.loop-at.at + c.min-step.result) _ _ _ (omega (arith, loop.low)) run.bits c.wanted_in-total.ensures,
          );
    }

pub returns : goal.returns
returns g c =
    let m = g.B.Readable.meaning c.args.readable.now in
    let loop = c.loop-at.invariant in
    let d : c.loop-at.at - c.args.first ≡ c.args.end - c.args.first = omega (arith, loop.low, loop.high, c.loop-at-test.false) in
    loop.total ∙ ap (ones_from m.bit c.args.first) d ∙ sym (length-ones m.bit c.args.first c.args.end)
