use Rattle.historical_bitmap.proofs.EditedChunks.WrittenBits.{byte_replaced}
use Rattle.historical_bitmap.proofs.bitmap.historical.edited.replace_bit.Goals as goal

pub returns-clause-new : goal.returns-clause-new
returns-clause-new g c = record {
  size = c.known.ensures.len;
  bits = rw c.byte_index-at.ensures.value (byte_replaced g.row.N c.args.chunk.now c.args.bit c.args.value c.with_bit-byte.result c.requires.width.positive c.told-chunk c.with_bit-byte.ensures.here (rw c.byte_index-at.ensures.value at c.with_bit-byte.ensures.others));
}
