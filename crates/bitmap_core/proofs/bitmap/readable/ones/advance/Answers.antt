use Rattle.std.proofs.Common.{◌∙◌, arith}
use Rattle.bitmap_core.specs.Meaning.{seen_as}
use Rattle.bitmap_core.proofs.Words.Loaded.{left_none, left_moved}
use Rattle.bitmap_core.proofs.bitmap.readable.ones.advance.Goals as goal

pub returns-then-cursor-end-clause-ended : goal.returns-then-cursor-end-clause-ended
returns-then-cursor-end-clause-ended g c = λ _.
    let loop = c.loop-cursor in
    left_none (seen_as c.args.wanted (g.B.Readable.meaning c.args.readable.now)) loop.cursor.base loop.cursor.word loop.cursor.next c.args.end c.loop-cursor-test.true
    (omega (arith, c.if-cursor-end.true))

pub loop-cursor-preserved : goal.loop-cursor-preserved
loop-cursor-preserved g c =
    let loop = c.loop-cursor in
    record {
      scan = c.load_more-rest.ensures.scan;
      cut = c.load_more-rest.ensures.cut;
      first = c.load_more-rest.ensures.first ∙ loop.invariant.first;
      counted = omega (arith, c.load_more-rest.ensures.counted, loop.invariant.counted);
      left =
          left_moved (seen_as c.args.wanted (g.B.Readable.meaning c.args.readable.now)) loop.cursor.base loop.cursor.word loop.cursor.next c.args.end _ _
          c.loop-cursor-test.true c.load_more-rest.ensures.left loop.invariant.left;
    }
