use Rattle.std.proofs.Common.{◌≡◌, ℕ, ◌*◌, ap, arith}
use Rattle.historical_bitmap.proofs.Changes.Unnamed.{shown_is}
use Rattle.historical_bitmap.proofs.bitmap.historical.at.AtCommit.retained_bytes.Goals as goal

pub returns : goal.returns
returns g c =
    let start : c.chunk_width.result * c.args.chunk ≡ 8 * g.row.N * c.args.chunk = ap (λ (w : ℕ). w * c.args.chunk) c.chunk_width.ensures in
    shown_is g.row.N c.args.self.now c.args.chunk c.len-len.result c.get_chunk-bytes.result c.cut.new.bytes c.len-len.ensures.lawful.width.positive c.len-len.ensures.value
    (omega (arith, c.if-chunk-pruned_chunks.false, c.pruned_chunks.ensures.value), omega (arith, c.if-start-len.false, start, c.len-len.ensures.value))
    c.cut.ensures.known c.get_chunk-bytes.ensures (rw c.chunk_width.ensures at c.cut.ensures.bits)
