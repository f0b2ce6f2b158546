use Rattle.bitmap_core.proofs.Chunks.ByteRead.{byte_read}
use Rattle.bitmap_core.proofs.bitmap.deque.bits.get_byte.Goals as goal

pub returns : goal.returns
returns g c = byte_read g.row.N _ _ c.args.bit _ c.requires.within (rw c.chunk_index.ensures at c.index.ensures) c.byte_index.ensures.value
