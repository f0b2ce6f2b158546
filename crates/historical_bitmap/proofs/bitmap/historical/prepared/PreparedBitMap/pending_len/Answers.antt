use Rattle.std.proofs.Common.{sym, ◌∙◌}
use Rattle.bitmap_core.specs.PrunedBits.{truncated}
use Rattle.historical_bitmap.proofs.Pending.Edits.{pending_len}
use Rattle.historical_bitmap.proofs.bitmap.historical.prepared.PreparedBitMap.pending_len.Goals as goal

pub returns : goal.returns
returns g c =
    let i = c.self.invariant.is_extended in
    rw (← c.self.view_is) (c.len.ensures.value ∙ sym (pending_len g.row.N (truncated g.row.N c.self.inside.current c.self.inside.old_len) c.self.inside.edits i.width.positive i.edits_fit))
