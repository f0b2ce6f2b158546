use Rattle.commit_log.specs.Entries.{view_change}
use Rattle.commit_log.proofs.Canonical.{canonical_decided}
use Rattle.commit_log.proofs.Checks.{decides_false, decides_true, never_decided}
use Rattle.commit_log.proofs.check.check.Goals as goal

pub returns-then-not-accepts_number : goal.returns-then-not-accepts_number
returns-then-not-accepts_number g c = record {
  accepted = decides_false (λ a. never_decided c.accepts_number.result c.accepts_number.ensures c.if-not-accepts_number.true a.0);
  error = λ a. never_decided c.accepts_number.result c.accepts_number.ensures c.if-not-accepts_number.true a;
}

pub returns-then-not-accepts_extent : goal.returns-then-not-accepts_extent
returns-then-not-accepts_extent g c = record {
  accepted = decides_false (λ a. never_decided c.accepts_extent.result c.accepts_extent.ensures c.if-not-accepts_extent.true a.1.extent);
  error = (c.accepts_number.ensures.0 c.if-not-accepts_number.false, λ h. never_decided c.accepts_extent.result c.accepts_extent.ensures c.if-not-accepts_extent.true h);
}

pub returns-then-not-lists_changes : goal.returns-then-not-lists_changes
returns-then-not-lists_changes g c =
    let extent = c.accepts_extent.ensures.0 c.if-not-accepts_extent.false in
    let d = canonical_decided g.row.N c.args.current.now (view_change g.row.N c.args.change.now) c.lists_changes.result c.len.ensures.width.positive extent c.lists_changes.ensures in
    record {
      accepted = decides_false (λ a. never_decided c.lists_changes.result d c.if-not-lists_changes.true a.1.changed);
      error = (c.accepts_number.ensures.0 c.if-not-accepts_number.false, extent, λ h. never_decided c.lists_changes.result d c.if-not-lists_changes.true h);
    }

pub returns : goal.returns
returns g c =
    let extent = c.accepts_extent.ensures.0 c.if-not-accepts_extent.false in
    let d = canonical_decided g.row.N c.args.current.now (view_change g.row.N c.args.change.now) c.lists_changes.result c.len.ensures.width.positive extent c.lists_changes.ensures in
    record { accepted = decides_true (c.accepts_number.ensures.0 c.if-not-accepts_number.false, record { extent = extent; changed = d.0 c.if-not-lists_changes.false }); error = tt }
