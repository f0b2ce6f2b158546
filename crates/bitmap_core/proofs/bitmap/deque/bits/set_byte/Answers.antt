use Rattle.bitmap_core.proofs.Chunks.ByteWritten.{IsBytePut-chunk}
use Rattle.bitmap_core.proofs.bitmap.deque.bits.set_byte.Goals as goal

pub returns : goal.returns
returns g c =
    let index = c.chunk_index.ensures in
    rw index (IsBytePut-chunk _ _ _ _ _ _ c.requires.within (rw index at c.index_mut.ensures.value) c.set_byte.ensures)
