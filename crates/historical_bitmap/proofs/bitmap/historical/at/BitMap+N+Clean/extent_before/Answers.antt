use Rattle.std.proofs.Common.{ap, sym, ◌∙◌}
use Rattle.std.specs.Prelude.{option_copied}
use Rattle.historical_bitmap.proofs.History.InPlace.{current_extent, first_extent}
use Rattle.historical_bitmap.proofs.History.KeptCommits.{can_undo_past}
use Rattle.historical_bitmap.proofs.bitmap.historical.at.BitMap+N+Clean.extent_before.Goals as goal

pub returns-in-Some : goal.returns-in-Some
returns-in-Some g c = λ number past.
    let all = can_undo_past g.row.N number c.self.inside.commits c.self.inside.current c.self.invariant.1.rise c.self.invariant.1.undo in
    let first = sym c.first_record.ensures ∙ ap option_copied c.in-Some.is in
    let later = rw (← c.self.view_is) at past in
    rw (sym c.self.view_is, c.len.ensures.value, c.pruned_chunks.ensures)
    (first_extent g.row.N number c.self.inside.commits c.self.inside.current c.in-Some.record.now c.len.ensures.width all (rw later at first))

pub returns-in-None : goal.returns-in-None
returns-in-None g c = λ number past.
    let first = sym c.first_record.ensures ∙ ap option_copied c.in-None.is in
    let later = rw (← c.self.view_is) at past in
    rw (sym c.self.view_is, c.len-in-None.ensures.value, c.pruned_chunks-in-None.ensures)
    (current_extent g.row.N number c.self.inside.commits c.self.inside.current c.len-in-None.ensures.width (rw later at first))
