use Rattle.std.proofs.Common.{arith}
use Rattle.bitmap_bytes.proofs.Chunks.Packed.{bools-more}
use Rattle.bitmap_bytes.proofs.chunk.append_bools.Goals as goal

pub loop-i-preserved : goal.loop-i-preserved
loop-i-preserved g c = record {
  items = bools-more _ _ _ _ _ _ _ (omega arith) c.bit_mask.ensures.value c.loop-i.invariant.items c.push_reserved.ensures.items;
  len = omega arith;
  capacity = omega arith;
}
