use Rattle.std.proofs.Common.{◌≡◌, length, ap, arith, ◌∙◌}
use Rattle.historical_bitmap.specs.Undo.{pruned_chunk_bytes}
use Rattle.historical_bitmap.proofs.Records.UndoneInSteps.{count}
use Rattle.historical_bitmap.proofs.bitmap.historical.undo.restore_front.Goals as goal

pub unprune-requires : goal.unprune-requires
unprune-requires g c =
    let pos = c.len.ensures.width.positive in
    let prefix : c.deref.result.now ≡ pruned_chunk_bytes c.args.diff.now c.args.newer.now.pruned =
    c.deref.ensures.value ∙ (c.in_ok-prefix.ensures ∙ ap (pruned_chunk_bytes c.args.diff.now) c.pruned_chunks-pruned.ensures) in
    (omega arith, (omega (arith, c.len.ensures.width.fits), omega (arith, ap length prefix, count g.row.N c.args.diff.now c.args.newer.now pos c.requires.undo.rises c.requires.undo.fits c.requires.undo.pruned)))
