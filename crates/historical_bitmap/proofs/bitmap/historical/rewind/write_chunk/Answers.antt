use Rattle.historical_bitmap.proofs.History.Rewound.{chunk_written}
use Rattle.historical_bitmap.proofs.bitmap.historical.rewind.write_chunk.Goals as goal

pub returns : goal.returns
returns g c =
    rw c.set_chunk_by_index.ensures (chunk_written g.row.N c.args.current.now c.args.chunk c.args.bytes.now c.cut.new.bytes c.len-len.ensures.width.positive
    (rw (c.len-len.ensures.value, c.chunk_width.ensures) at c.cut.ensures.bits))
