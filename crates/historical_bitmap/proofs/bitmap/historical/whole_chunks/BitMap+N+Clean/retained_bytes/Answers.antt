use Rattle.std.proofs.Common.{◌≡◌, ◌*◌, arith}
use Rattle.std.specs.Int.{div_ceil}
use Rattle.bitmap_core.specs.PrunedBits.{bit_len}
use Rattle.historical_bitmap.proofs.Changes.PastEnd.{bytes_past}
use Rattle.historical_bitmap.proofs.bitmap.historical.whole_chunks.BitMap+N+Clean.retained_bytes.Goals as goal

pub returns-then-chunk-chunk_count : goal.returns-then-chunk-chunk_count
returns-then-chunk-chunk_count g c =
    let count : c.chunk_count.result ≡ div_ceil (bit_len g.row.N c.self.inside.current) (8 * g.row.N) = rw c.len.ensures.value at c.chunk_count.ensures in
    rw (← c.self.view_is) (bytes_past g.row.N c.self.inside.current c.args.chunk c.len.ensures.width.positive (omega (arith, c.if-chunk-chunk_count.true, count)))
