use Rattle.std.proofs.Common.{◌≡◌, ℕ, map, ap, arith, ◌∙◌}
use Rattle.bitmap_core.specs.PrunedBits.{chunk}
use Rattle.historical_bitmap.specs.Changes.{chunk_total}
use Rattle.historical_bitmap.specs.Edits.{from_to}
use Rattle.historical_bitmap.specs.Record.ChunkDiff.{Pruned}
use Rattle.historical_bitmap.specs.Replaced.{with_entries}
use Rattle.historical_bitmap.proofs.History.Replaced.{entries_more, pruned_total}
use Rattle.historical_bitmap.proofs.bitmap.historical.replaced.record_pruned.Goals as goal

pub loop-index-preserved : goal.loop-index-preserved
loop-index-preserved g c =
    entries_more (λ i. (i, Pruned (chunk g.row.N c.args.old.now i))) c.args.old.now.pruned c.loop-index.index (c.loop-index.index, Pruned c.get_chunk.result.now) c.args.diff.now c.loop-index.diff c.push.new.self
    (omega (arith, c.loop-index.auto.index, c.pruned_chunks-index.ensures)) (ap (λ bytes. (c.loop-index.index, Pruned bytes)) c.get_chunk.ensures) c.loop-index.invariant c.in_ok-push.ensures.ok

pub returns : goal.returns
returns g c =
    let last : c.loop-index.index ≡ chunk_total g.row.N c.args.old.now =
    omega (arith, c.loop-index-test.false, c.loop-index.auto.index-end, pruned_total g.row.N c.args.old.now c.len.ensures.width.positive, c.chunks_len-index-end.ensures.value, c.pruned_chunks-index.ensures) in
    c.loop-index.invariant ∙ ap (λ (end : ℕ). with_entries c.args.diff.now (map (λ i. (i, Pruned (chunk g.row.N c.args.old.now i))) (from_to c.args.old.now.pruned end))) last
