use Rattle.std.proofs.Common.{arith}
use Rattle.bitmap_core.proofs.Slices.{word_in_place, one_more_clear}
use Rattle.bitmap_core.proofs.bitmap.readable.in_place.first_wanted.Goals as goal

pub loop-index-preserved : goal.loop-index-preserved
loop-index-preserved c =
    let loop = c.loop-index.invariant in
    record {
      within = omega (arith, c.loop-index-test.true);
      counted = omega (arith, c.load_word-word.ensures.counted, loop.counted);
      same = loop.same;
      none =
          one_more_clear c.args.words.now c.args.wanted c.loop-index.index c.load_word-word.result (omega (arith, c.if-word-ne0.false))
          (word_in_place c.args.words.now c.args.wanted c.loop-index.index c.load_word-word.result
          (λ t h. c.load_word-word.ensures.inside t h (omega arith) (omega arith)))
          loop.none;
    }
