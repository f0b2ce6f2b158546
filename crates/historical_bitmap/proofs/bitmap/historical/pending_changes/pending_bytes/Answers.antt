use Rattle.std.proofs.Common.{◌≡◌, ℕ, ◌*◌, ap, arith, ◌∙◌}
use Rattle.std.specs.Prelude.{Some}
use Rattle.historical_bitmap.proofs.Changes.Pending.{pending_past, pending_pruned, pending_there}
use Rattle.historical_bitmap.proofs.bitmap.historical.pending_changes.pending_bytes.Goals as goal
use Rattle.historical_bitmap.proofs.bitmap.historical.pending_changes.pending_bytes.Goals.{then-chunk-pruned_chunks-via-then-chunk-pruned_chunks, then-chunk-pruned_chunks-via-else-chunk-pruned_chunks+then-start-len}

pub returns-then-chunk-pruned_chunks : goal.returns-then-chunk-pruned_chunks
returns-then-chunk-pruned_chunks g c =
    let start : c.chunk_width.result * c.args.chunk ≡ 8 * g.row.N * c.args.chunk = ap (λ (w : ℕ). w * c.args.chunk) c.chunk_width.ensures in
    elim c.then-chunk-pruned_chunks.branch [
      | then-chunk-pruned_chunks-via-then-chunk-pruned_chunks w ↦
          pending_pruned g.row.N c.args.current.now c.args.edits.now c.len-len.ensures.width.positive c.requires.edits_fit c.args.chunk (omega (arith, w.if-chunk-pruned_chunks.true, c.pruned_chunks.ensures.value))
      | then-chunk-pruned_chunks-via-else-chunk-pruned_chunks+then-start-len w ↦
          pending_past g.row.N c.args.current.now c.args.edits.now c.len-len.ensures.width.positive c.requires.edits_fit c.args.chunk (omega (arith, w.if-start-len.true, start, c.len-len.ensures.value))
    ]

pub returns : goal.returns
returns g c =
    let start : c.chunk_width.result * c.args.chunk ≡ 8 * g.row.N * c.args.chunk = ap (λ (w : ℕ). w * c.args.chunk) c.chunk_width.ensures in
    ap Some c.chunk.ensures.value
    ∙ pending_there g.row.N c.args.current.now c.args.edits.now c.len-len.ensures.width.positive c.requires.edits_fit c.args.chunk
    (omega (arith, c.if-chunk-pruned_chunks.false, c.pruned_chunks.ensures.value)) (omega (arith, c.if-start-len.false, start, c.len-len.ensures.value)) (rw c.chunk.ensures.value at c.chunk.ensures.known)
