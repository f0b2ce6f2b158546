use Rattle.std.proofs.Common.{◌∷◌, ◌∙◌, ap, arith}
use Rattle.bitmap_bytes.proofs.Chunks.Concatenated.{put_front_step}
use Rattle.bitmap_core.proofs.bitmap.deque.whole_chunks.put_front.Goals as goal

pub loop-left-preserved : goal.loop-left-preserved
loop-left-preserved g c =
    record {
      within = omega (arith, c.loop-left.invariant.within);
      space = omega (arith, c.loop-left.invariant.space, c.push_front_reserved.ensures.len, c.push_front_reserved.ensures.capacity);
      items =
          c.push_front_reserved.ensures.items
          ∙ ap (λ ys. c.index-front-left.result ∷ ys) c.loop-left.invariant.items
          ∙ put_front_step _ _ _ _ c.loop-left-test.true c.loop-left.invariant.within c.index-front-left.is;
    }
