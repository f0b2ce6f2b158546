use Rattle.std.proofs.Common.{◌≡◌, ap, arith, sym, take, ◌∙◌}
use Rattle.std.specs.Prelude.{nat_le}
use Rattle.std.specs.List.{filter}
use Rattle.bitmap_core.specs.PrunedBits.{bit_len}
use Rattle.historical_bitmap.specs.Record.{bytes_of, kept_bytes}
use Rattle.historical_bitmap.specs.Stored.{diff_value, entry_values}
use Rattle.historical_bitmap.specs.Undo.{put_back_one}
use Rattle.historical_bitmap.proofs.Records.EntryPasses.{found_at, may_put, put_taken, put_skipped}
use Rattle.historical_bitmap.proofs.Records.UndoneInSteps.{put_len, put_pruned}
use Rattle.historical_bitmap.proofs.bitmap.historical.undo.put_back_from.Goals as goal
use Rattle.historical_bitmap.proofs.bitmap.historical.undo.put_back_from.Goals.{then-from-entry, else-from-entry}

pub put_back_chunk-requires : goal.put_back_chunk-requires
put_back_chunk-requires g c =
    let found = found_at c.args.entries.now c.loop-entry.entry-index c.entry-item.result c.loop-entry-test.true c.entry-item.is c.requires.sorted in
    let before = filter (λ entry. nat_le c.args.from entry.0) (entry_values (take c.loop-entry.entry-index c.args.entries.now)) in
    let len : bit_len g.row.N c.loop-entry.bitmap ≡ bit_len g.row.N c.args.bitmap.now = ap (bit_len g.row.N) c.loop-entry.invariant ∙ put_len g.row.N c.args.bitmap.now before in
    let pruned : c.loop-entry.bitmap.pruned ≡ c.args.bitmap.now.pruned = ap (λ b. b.pruned) c.loop-entry.invariant ∙ put_pruned g.row.N c.args.bitmap.now before in (
      omega arith,
      (
        omega (arith, c.requires.width.fits),
        (
          c.requires.width,
          (
            omega (arith, pruned, c.requires.retained, c.if-from-entry.true),
            may_put g.row.N c.entry-item.result.0 _ _ _ _ (c.old_bytes.ensures ∙ ap bytes_of (sym found)) len (c.requires.old c.entry-item.result.0 c.if-from-entry.true),
          ),
        ),
      ),
    )

pub loop-entry-preserved : goal.loop-entry-preserved
loop-entry-preserved g c = elim c.if-from-entry.branch [
  | then-from-entry w ↦
      w.bitmap-is
      ∙ (w.put_back_chunk.ensures
      ∙ (ap (put_back_one g.row.N c.loop-entry.bitmap c.entry-item.result.0) w.old_bytes.ensures
      ∙ (ap (λ b. put_back_one g.row.N b c.entry-item.result.0 (kept_bytes (diff_value c.entry-item.result.1))) c.loop-entry.invariant
      ∙ sym (put_taken c.args.entries.now c.loop-entry.entry-index c.entry-item.result c.loop-entry-test.true c.entry-item.is g.row.N c.args.bitmap.now c.args.from w.if-from-entry.true))))
  | else-from-entry w ↦
      w.bitmap-is
      ∙ (c.loop-entry.invariant
      ∙ sym (put_skipped c.args.entries.now c.loop-entry.entry-index c.entry-item.result c.loop-entry-test.true c.entry-item.is g.row.N c.args.bitmap.now c.args.from w.if-from-entry.false))
]
