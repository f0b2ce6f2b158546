use Rattle.std.proofs.Common.{◌≡◌, ◌∙◌, arith}
use Rattle.bitmap_core.specs.PrunedBits.{truncated}
use Rattle.historical_bitmap.specs.History.{before_latest}
use Rattle.historical_bitmap.specs.Pending.{pending_bits}
use Rattle.historical_bitmap.proofs.Pending.Prepared.{can_apply, costs_then, history_then, kept_then, pending_same}
use Rattle.historical_bitmap.proofs.bitmap.historical.prepared.PreparedBitMap.commit.Goals as goal

pub overwrite-requires : goal.overwrite-requires
overwrite-requires g c =
    (omega arith, (omega arith, rw (c.len-len.ensures.value, c.pruned_chunks-pruned.ensures.value, c.into_edited-edited.ensures) (can_apply g.row.N (truncated g.row.N c.self.inside.current c.self.inside.old_len) (before_latest c.self.inside.commits) c.self.inside.commits c.self.inside.edits c.self.inside.number c.self.inside.current c.self.invariant.is_extended.width.positive c.self.invariant.is_extended.edits_fit c.self.invariant.prepared)))

pub invariant_of-result : goal.invariant_of-result
invariant_of-result g c =
    let old = truncated g.row.N c.self.inside.current c.self.inside.old_len in
    let made : c.overwrite.new.current ≡ pending_bits g.row.N old c.self.inside.edits =
    c.overwrite.ensures ∙ (rw (c.len-len.ensures.value, c.pruned_chunks-pruned.ensures.value, c.into_edited-edited.ensures) (pending_same g.row.N (truncated g.row.N c.self.inside.current c.self.inside.old_len) (before_latest c.self.inside.commits) c.self.inside.commits c.self.inside.edits c.self.inside.number c.self.inside.current c.self.invariant.is_extended.width.positive c.self.invariant.is_extended.edits_fit c.self.invariant.prepared)) in
    (tt, rw made (kept_then g.row.N (truncated g.row.N c.self.inside.current c.self.inside.old_len) (before_latest c.self.inside.commits) c.self.inside.commits c.self.inside.edits c.self.inside.number c.self.inside.current c.self.invariant.is_extended.width.positive c.self.invariant.is_extended.edits_fit c.self.invariant.prepared c.self.inside.last c.self.invariant.small c.self.invariant.accepted c.self.invariant.kept))

pub returns-clause-current : goal.returns-clause-current
returns-clause-current g c =
    let old = truncated g.row.N c.self.inside.current c.self.inside.old_len in
    let made : c.overwrite.new.current ≡ pending_bits g.row.N old c.self.inside.edits =
    c.overwrite.ensures ∙ (rw (c.len-len.ensures.value, c.pruned_chunks-pruned.ensures.value, c.into_edited-edited.ensures) (pending_same g.row.N (truncated g.row.N c.self.inside.current c.self.inside.old_len) (before_latest c.self.inside.commits) c.self.inside.commits c.self.inside.edits c.self.inside.number c.self.inside.current c.self.invariant.is_extended.width.positive c.self.invariant.is_extended.edits_fit c.self.invariant.prepared)) in
    rw (← c.self.view_is) made

pub returns-clause-history : goal.returns-clause-history
returns-clause-history g c =
    let old = truncated g.row.N c.self.inside.current c.self.inside.old_len in
    let made : c.overwrite.new.current ≡ pending_bits g.row.N old c.self.inside.edits =
    c.overwrite.ensures ∙ (rw (c.len-len.ensures.value, c.pruned_chunks-pruned.ensures.value, c.into_edited-edited.ensures) (pending_same g.row.N (truncated g.row.N c.self.inside.current c.self.inside.old_len) (before_latest c.self.inside.commits) c.self.inside.commits c.self.inside.edits c.self.inside.number c.self.inside.current c.self.invariant.is_extended.width.positive c.self.invariant.is_extended.edits_fit c.self.invariant.prepared)) in
    rw (← c.self.view_is, made) (history_then g.row.N (truncated g.row.N c.self.inside.current c.self.inside.old_len) (before_latest c.self.inside.commits) c.self.inside.commits c.self.inside.edits c.self.inside.number c.self.inside.current c.self.invariant.is_extended.width.positive c.self.invariant.is_extended.edits_fit c.self.invariant.prepared c.self.inside.last c.self.invariant.small c.self.invariant.accepted c.self.invariant.kept)

pub returns-clause-costs : goal.returns-clause-costs
returns-clause-costs g c = rw (← c.self.view_is) (costs_then g.row.N (truncated g.row.N c.self.inside.current c.self.inside.old_len) (before_latest c.self.inside.commits) c.self.inside.commits c.self.inside.edits c.self.inside.number c.self.inside.current c.self.invariant.is_extended.width.positive c.self.invariant.is_extended.edits_fit c.self.invariant.prepared c.self.inside.last c.self.invariant.small c.self.invariant.accepted c.self.invariant.kept)
