use Rattle.std.proofs.Common.{◌+◌, ◌∷◌, ap, drop, sym, ◌∙◌}
use Rattle.std.proofs.lemmas.List.{drop_more}
use Rattle.historical_bitmap.specs.Stored.{diff_value, entry_values}
use Rattle.historical_bitmap.proofs.History.Rewound.{entry_gathered}
use Rattle.historical_bitmap.proofs.bitmap.historical.rewind.gather_record.Goals as goal

pub loop-entry-preserved : goal.loop-entry-preserved
loop-entry-preserved g c =
    let all = c.args.entries.now in
    let i = c.loop-entry.entry-index in
    let e = c.entry-item.result in
    entry_gathered (e.0, diff_value e.1) (entry_values (drop i all)) (entry_values (drop (i + 1) all)) (entry_values all) c.args.first c.args.end c.args.chunks.now.entries c.loop-entry.chunks.entries c.gather_entry.new.chunks.entries
    (ap entry_values (drop_more all i e c.loop-entry-test.true ∙ ap (λ y. y ∷ drop (i + 1) all) (sym c.entry-item.is))) c.in_ok-gather_entry.ensures c.loop-entry.invariant
