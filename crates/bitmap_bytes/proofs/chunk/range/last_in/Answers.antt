use Rattle.std.proofs.Common.{◌-◌, arith}
use Rattle.bitmap_bytes.proofs.Counting.Parts.{last_found, none_more, read_below, start_inside}
use Rattle.bitmap_bytes.proofs.chunk.range.last_in.Goals as goal

pub wanted_below-word-requires : goal.wanted_below-word-requires
wanted_below-word-requires g c =
    let high = c.loop-top.invariant.high in
    let some = c.loop-top-test.true in
    (omega (arith, c.requires.width.fits), (c.requires.width, (start_inside g.row.N (c.loop-top.top - 1) (omega (arith, c.requires.within)), omega arith)))

pub returns-then-word-ne0 : goal.returns-then-word-ne0
returns-then-word-ne0 g c =
    let e = c.highest.ensures in
    let w = c.wanted_below-word.ensures in
    let loop = c.loop-top.invariant in
    last_found _ c.wanted_below-word.result _ c.loop-top.top c.args.to c.highest.result
    (read_below g.row.N c.args.chunk.now c.args.wanted c.loop-top.top _ c.loop-top-test.true (omega (arith, c.requires.within, loop.high)) w.inside w.past_end)
    loop.high loop.none e.within e.set e.highest

pub loop-top-preserved : goal.loop-top-preserved
loop-top-preserved g c =
    let w = c.wanted_below-word.ensures in
    let loop = c.loop-top.invariant in
    record {
      high = omega (arith, loop.high);
      none = none_more _ c.wanted_below-word.result _ c.loop-top.top c.args.to
          (read_below g.row.N c.args.chunk.now c.args.wanted c.loop-top.top _ c.loop-top-test.true (omega (arith, c.requires.within, loop.high)) w.inside w.past_end)
          c.if-word-ne0.false loop.none;
    }
