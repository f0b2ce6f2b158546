use Rattle.std.proofs.Common.{◌+◌, ◌-◌, ◌/◌, ◌<◌, length, arith}
use Rattle.historical_bitmap.proofs.History.Positions.{number_after, number_before}
use Rattle.historical_bitmap.proofs.bitmap.historical.kept_row.search_past.Goals as goal

pub loop-start-preserved-then-kept-number : goal.loop-start-preserved-then-kept-number
loop-start-preserved-then-kept-number g c =
    let inside : c.loop-start.start + (c.loop-start.end - c.loop-start.start) / 2 < length c.args.bytes.now.items = omega (arith, c.loop-start-test.true, c.loop-start.invariant.within) in
    record {
      order = omega (arith, c.loop-start-test.true);
      within = c.loop-start.invariant.within;
      earlier = λ j h. omega (arith, c.if-kept-number.true, number_before c.args.bytes.now.items _ c.index-kept.result.now inside c.index-kept.ensures c.requires.rise j (omega (arith, h)));
      later = c.loop-start.invariant.later;
    }

pub loop-start-preserved : goal.loop-start-preserved
loop-start-preserved g c =
    let inside : c.loop-start.start + (c.loop-start.end - c.loop-start.start) / 2 < length c.args.bytes.now.items = omega (arith, c.loop-start-test.true, c.loop-start.invariant.within) in
    record {
      order = omega (arith, c.loop-start-test.true);
      within = omega (arith, c.loop-start-test.true, c.loop-start.invariant.within);
      earlier = c.loop-start.invariant.earlier;
      later = λ j h l. omega (arith, c.if-kept-number.false, number_after c.args.bytes.now.items _ c.index-kept.result.now inside c.index-kept.ensures c.requires.rise j h l);
    }
