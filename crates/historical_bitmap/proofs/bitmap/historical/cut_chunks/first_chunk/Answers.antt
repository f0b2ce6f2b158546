use Rattle.std.proofs.Common.{◌≡◌, ℕ, ◌*◌, ◌/◌, ◌≤◌, ap, sym, arith}
use Rattle.bitmap_bytes.specs.Chunk.{chunk_bit}
use Rattle.bitmap_core.specs.PrunedBits.{bit_at, bit_len}
use Rattle.historical_bitmap.proofs.Records.Restores.{bit_in_chunk}
use Rattle.historical_bitmap.proofs.Pending.Writes.{cut_is, zeros_past}
use Rattle.historical_bitmap.proofs.bitmap.historical.cut_chunks.first_chunk.Goals as goal
use Rattle.historical_bitmap.proofs.bitmap.historical.cut_chunks.first_chunk.Goals.{then-start-total, else-start-total}

pub returns-clause-value : goal.returns-clause-value
returns-clause-value g c =
    let n = g.row.N in
    let b = c.args.current.now in
    let pos = c.len-total.ensures.width.positive in
    let start : c.chunk_width.result * c.args.index ≡ 8 * g.row.N * c.args.index = ap (λ (w : ℕ). w * c.args.index) c.chunk_width.ensures in
    let past : c.len-total.result ≤ c.chunk_width.result * c.args.index → bit_len g.row.N c.args.current.now ≤ 8 * g.row.N * c.args.index = λ h. omega (arith, h, start, c.len-total.ensures.value) in
    let same : (k : ℕ) → k / (8 * g.row.N) ≡ c.args.index → chunk_bit g.row.N c.if-start-total.bytes k ≡ bit_at g.row.N c.args.current.now k = elim c.if-start-total.branch [
      | then-start-total w ↦ λ k e. rw (w.bytes-is, w.get_chunk.ensures, sym e) (bit_in_chunk n b k pos)
      | else-start-total w ↦ λ k e. rw w.bytes-is (zeros_past n b c.args.index k pos (past w.if-start-total.false) e)
    ] in
    cut_is n b c.args.len c.args.index c.if-start-total.bytes c.cut.new.bytes pos c.requires.from c.cut.ensures.known (rw (c.saturating_sub.ensures, c.chunk_width.ensures) at c.cut.ensures.bits) same
