use Rattle.std.proofs.Common.{◌≡◌, ◌∙◌, arith}
use Rattle.historical_bitmap.specs.View.{history_of}
use Rattle.commit_log.specs.Entries.{view_change}
use Rattle.commit_log.specs.Kept.{applied}
use Rattle.commit_log.proofs.Anew.{applied_anew, replaced_entry}
use Rattle.commit_log.proofs.Canonical.{accepted_ascends}
use Rattle.commit_log.proofs.apply.replace.Goals as goal

pub made_anew-requires : goal.made_anew-requires
made_anew-requires g c =
    let n = g.row.N in
    let follows = c.requires.accepted.1 in
    (omega arith, (c.len.ensures.width, (follows.extent.covers, accepted_ascends n c.args.bitmap.current (view_change n c.args.change.now) c.len.ensures.width.positive follows)))

pub returns-in-Ok-commit_replaced-clause-entry : goal.returns-in-Ok-commit_replaced-clause-entry
returns-in-Ok-commit_replaced-clause-entry g c =
    let n = g.row.N in
    let old = c.args.bitmap in
    let change = view_change n c.args.change.now in
    let made : c.in-Ok.made ≡ applied n old.current change = c.in-Ok.ensures ∙ applied_anew n old.current change c.requires.accepted.1.extent.covers c.requires.pruned in
    let kept = c.in-Ok-commit_replaced in
    replaced_entry n change old.current c.in-Ok.made (history_of n old) old.last kept.bitmap made kept.ensures.current kept.ensures.history kept.ensures.last
