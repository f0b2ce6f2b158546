use Rattle.std.proofs.Common.{arith}
use Rattle.bitmap_bytes.proofs.Chunks.Packed.{byte-more}
use Rattle.bitmap_bytes.proofs.chunk.byte_of.Goals as goal

pub loop-t-preserved : goal.loop-t-preserved
loop-t-preserved c = record { bits = byte-more _ _ _ _ (omega arith) c.loop-t-test.true c.from.ensures c.loop-t.invariant.bits }
