use Rattle.std.proofs.Common.{◌≡◌, ◌*◌, arith, sym}
use Rattle.std.specs.Int.{div_ceil}
use Rattle.bitmap_core.specs.PrunedBits.{bit_len}
use Rattle.historical_bitmap.specs.Pending.{pending_bits}
use Rattle.historical_bitmap.proofs.Pending.Edits.{pending_len}
use Rattle.historical_bitmap.proofs.Changes.PastEnd.{bytes_past}
use Rattle.historical_bitmap.proofs.bitmap.historical.whole_chunks.BitMap+N+Dirty+N.retained_bytes.Goals as goal

pub returns-then-chunk-chunk_count : goal.returns-then-chunk-chunk_count
returns-then-chunk-chunk_count g c =
    let b = pending_bits g.row.N c.self.inside.current c.self.inside.state in
    let pos = c.len.ensures.width.positive in
    let count : c.chunk_count.result ≡ div_ceil (bit_len g.row.N (pending_bits g.row.N c.self.inside.current c.self.inside.state)) (8 * g.row.N) = rw (c.len.ensures.value, sym (pending_len g.row.N c.self.inside.current c.self.inside.state pos c.self.invariant.0)) at c.chunk_count.ensures in
    rw (← c.self.view_is) (bytes_past g.row.N b c.args.chunk pos (omega (arith, c.if-chunk-chunk_count.true, count)))
