use Rattle.std.proofs.Common.{◌++◌, ap, ◌∙◌}
use Rattle.historical_bitmap.specs.Stored.{entry_values}
use Rattle.historical_bitmap.specs.Undo.{kept_between}
use Rattle.historical_bitmap.proofs.Records.EntryPasses.{kept_pruned}
use Rattle.historical_bitmap.proofs.bitmap.historical.record.CommitDiff.pruned_bytes.Goals as goal

pub returns : goal.returns
returns g c =
    c.in_ok-collect_between.ensures
    ∙ (ap (λ items. items ++ kept_between c.self.inside.pruned_chunks c.args.pruned (entry_values c.deref.result.now)) c.in_ok-chunks.ensures.items
    ∙ (ap (λ es. kept_between c.self.inside.pruned_chunks c.args.pruned (entry_values es)) c.deref.ensures.value
    ∙ (ap (λ r. kept_between r.pruned c.args.pruned r.entries) c.self.view_is
    ∙ kept_pruned c.args.self.now c.args.pruned c.requires.sorted c.requires.rises c.requires.kept)))
