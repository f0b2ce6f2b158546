use Rattle.std.proofs.Common.{arith}
use Rattle.bitmap_bytes.proofs.Chunks.Lists.{IsBitPut-flip}
use Rattle.bitmap_core.proofs.bitmap.deque.bits.flip_bit.Goals as goal

pub index_mut-requires : goal.index_mut-requires
index_mut-requires g c = rw c.chunk_index.ensures (omega (arith, c.args.chunks.now.ok.0))

pub returns : goal.returns
returns g c =
    let positive = c.requires.width.positive in
    let index = c.chunk_index.ensures in
    rw index (IsBitPut-flip _ _ _ _ _ positive c.requires.within (rw index at c.index_mut.ensures.value) c.flip_bit.ensures)
