use Rattle.std.proofs.Common.{◌∙◌, ◌+◌, length, sym, arith}
use Rattle.historical_bitmap.specs.View.{history_of}
use Rattle.commit_log.specs.Entries.{encode_entry}
use Rattle.commit_log.specs.Entries.Entry.{Commit}
use Rattle.commit_log.specs.Kept.{change_to}
use Rattle.commit_log.proofs.Sizes.{commit_sized, size_same}
use Rattle.commit_log.proofs.size.commit_size.Goals as goal

pub returns-in_err-list : goal.returns-in_err-list
returns-in_err-list g c = λ old new older newer.
    let n = g.row.N in
    let sized = commit_sized n (history_of n c.args.bitmap.now) c.args.from c.args.to c.count_listed-count.result old new c.unwrap-newer.result c.unwrap-changes.result c.at.ensures.width.positive c.len.ensures.lawful.len_fits (sym c.unwrap-newer.ensures ∙ c.at.ensures.value) (sym c.unwrap-changes.ensures ∙ c.changed_chunks.ensures.value) older newer c.count_listed-count.ensures in
    rw c.from_residual.ensures (λ h. c.in_err-list.ensures (omega (arith, sized, h)))

pub returns : goal.returns
returns g c = λ old new older newer.
    let n = g.row.N in
    let sized = commit_sized n (history_of n c.args.bitmap.now) c.args.from c.args.to c.count_listed-count.result old new c.unwrap-newer.result c.unwrap-changes.result c.at.ensures.width.positive c.len.ensures.lawful.len_fits (sym c.unwrap-newer.ensures ∙ c.at.ensures.value) (sym c.unwrap-changes.ensures ∙ c.changed_chunks.ensures.value) older newer c.count_listed-count.ensures in
    size_same (c.in_ok-list.list + 49) (24 + length (encode_entry (Commit (change_to n c.args.to old new)))) c.checked_add.result c.checked_add.ensures (omega (arith, sized, c.in_ok-list.ensures.1))
