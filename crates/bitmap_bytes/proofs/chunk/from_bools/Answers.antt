use Rattle.std.proofs.Common.{◌∙◌}
use Rattle.std.proofs.lemmas.List.{length-set}
use Rattle.bitmap_bytes.proofs.Chunks.Packed.{bytes-more}
use Rattle.bitmap_bytes.proofs.chunk.from_bools.Goals as goal

pub loop-j-preserved : goal.loop-j-preserved
loop-j-preserved g c =
    let positive = c.requires.width.positive in
    let loop = c.loop-j.invariant in
    record {
      size = length-set _ _ _ ∙ loop.size;
      done =
          bytes-more _ _ _ _ _ _ _ positive c.loop-j-test.true loop.size c.min-from.ensures c.min-to.ensures c.byte_of.ensures loop.done;
    }
