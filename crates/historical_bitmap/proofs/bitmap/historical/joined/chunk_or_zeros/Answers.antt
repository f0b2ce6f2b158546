use Rattle.historical_bitmap.proofs.EditedChunks.JoinedBits.{cut_shows}
use Rattle.historical_bitmap.proofs.bitmap.historical.joined.chunk_or_zeros.Goals as goal

pub returns-clause-bits : goal.returns-clause-bits
returns-clause-bits g c = cut_shows g.row.N c.args.bits.now c.args.index c.get_chunk-bytes.result c.cut.new.bytes c.requires.width.positive c.get_chunk-bytes.ensures (rw (c.chunk_width.ensures, c.len-len.ensures.value) at c.cut.ensures.bits)
