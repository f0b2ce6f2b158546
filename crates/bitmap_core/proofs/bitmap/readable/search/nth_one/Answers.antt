use Rattle.std.proofs.Common.{◌≡◌, ◌+◌, ◌-◌, ◌*◌, true, sym, ap, arith}
use Rattle.std.proofs.Math.Nat.{mul-le-mul_left}
use Rattle.bitmap_bytes.proofs.Counting.Ones.{ones_from}
use Rattle.bitmap_core.proofs.Searches.{IsTurn, count_more, nth_more, get_nth, get_none}
use Rattle.bitmap_core.proofs.Slices.{first_more}
use Rattle.bitmap_core.proofs.bitmap.readable.search.nth_one.Goals as goal
use Rattle.bitmap_core.proofs.bitmap.readable.search.nth_one.Goals.{After-get_chunk-chunk}

pub returns-then-left-count : goal.returns-then-left-count
returns-then-left-count g c =
    let m = g.B.Readable.meaning c.args.readable.now in
    let t : IsTurn g.row.N (g.B.Readable.meaning c.args.readable.now) c.args.first c.loop-at.at c.args.end c.min-step.result c.get_chunk-chunk.result =
    record {
      positive = c.requires.lawful.width.positive;
      low = c.loop-at.invariant.low;
      below = c.loop-at-test.true;
      within = c.requires.within;
      step_is = c.min-step.ensures;
      shown = rw c.chunk_index.ensures at c.get_chunk-chunk.ensures;
    } in
    sym (get_nth m.bit c.args.first c.args.end c.args.k _ (nth_more g.row.N m _ _ _ _ _ t c.loop-at.left c.args.k c.in_ok-bit.bit c.loop-at.invariant.counted c.in_ok-bit.ensures))

pub loop-at-preserved : goal.loop-at-preserved
loop-at-preserved g c =
    let m = g.B.Readable.meaning c.args.readable.now in
    let loop = c.loop-at.invariant in
    let t : IsTurn g.row.N (g.B.Readable.meaning c.args.readable.now) c.args.first c.loop-at.at c.args.end c.min-step.result c.get_chunk-chunk.result =
    record {
      positive = c.requires.lawful.width.positive;
      low = c.loop-at.invariant.low;
      below = c.loop-at-test.true;
      within = c.requires.within;
      step_is = c.min-step.ensures;
      shown = rw c.chunk_index.ensures at c.get_chunk-chunk.ensures;
    } in
    let run = c.slice_from.ensures in
    let skipped = c.leading-skipped.ensures in
    record {
      low = omega (arith, loop.low);
      high = omega (arith, loop.high, c.min-step.ensures, c.loop-at-test.true, run.within, mul-le-mul_left (8 * g.row.N) skipped.within);
      counted =
          omega (
            arith,
            loop.counted,
            c.if-left-count.false,
            skipped.few,
            count_more g.row.N m _ _ _ _ _ t c.ones_in-count.result c.ones_in-count.ensures,
            first_more g.row.N m true c.args.first (c.loop-at.at + c.min-step.result) _ _ _ (omega (arith, loop.low)) skipped.within run.bits skipped.counted,
          );
    }

pub returns : goal.returns
returns g c =
    let m = g.B.Readable.meaning c.args.readable.now in
    let loop = c.loop-at.invariant in
    let d : c.loop-at.at - c.args.first ≡ c.args.end - c.args.first = omega (arith, loop.low, loop.high, c.loop-at-test.false) in
    let e = ap (ones_from m.bit c.args.first) d in
    sym (get_none m.bit c.args.first c.args.end c.args.k (omega (arith, loop.counted, e)))
