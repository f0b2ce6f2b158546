use Rattle.std.proofs.Common.{ap, ◌∙◌}
use Rattle.historical_bitmap.proofs.bitmap.historical.pending.Dirty.into_edited.Goals as goal

pub returns : goal.returns
returns g c = c.settle.ensures.value ∙ ap (λ l. l.edited) c.self.view_is
