use Rattle.std.proofs.Common.{◌≡◌, ℕ, map, ap, arith, refl, ◌∙◌}
use Rattle.historical_bitmap.specs.Changes.{chunk_total}
use Rattle.historical_bitmap.specs.Edits.{from_to}
use Rattle.historical_bitmap.specs.Record.ChunkDiff.{Added}
use Rattle.historical_bitmap.specs.Replaced.{with_entries}
use Rattle.historical_bitmap.proofs.History.Replaced.{entries_more, pruned_total}
use Rattle.historical_bitmap.proofs.bitmap.historical.replaced.record_added.Goals as goal

pub loop-index-preserved : goal.loop-index-preserved
loop-index-preserved g c =
    entries_more (λ i. (i, Added)) c.args.new.now.pruned c.loop-index.index (c.loop-index.index, Added) c.args.diff.now c.loop-index.diff c.push.new.self
    (omega (arith, c.loop-index.auto.index, c.pruned_chunks-index.ensures)) refl c.loop-index.invariant c.in_ok-push.ensures.ok

pub returns : goal.returns
returns g c =
    let last : c.loop-index.index ≡ chunk_total g.row.N c.args.new.now =
    omega (arith, c.loop-index-test.false, c.loop-index.auto.index-end, pruned_total g.row.N c.args.new.now c.len.ensures.width.positive, c.chunks_len-index-end.ensures.value, c.pruned_chunks-index.ensures) in
    c.loop-index.invariant ∙ ap (λ (end : ℕ). with_entries c.args.diff.now (map (λ i. (i, Added)) (from_to c.args.new.now.pruned end))) last
