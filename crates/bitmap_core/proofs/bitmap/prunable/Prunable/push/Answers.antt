use Rattle.std.proofs.Common.{◌*◌, ◌%◌, ◌∙◌, ap, sym}
use Rattle.bitmap_core.specs.PrunedBits.{bit_len}
use Rattle.bitmap_core.proofs.Pruned.Positions.{rest_of_len}
use Rattle.bitmap_core.proofs.bitmap.prunable.Prunable.push.Goals as goal

pub returns-clause-partial : goal.returns-clause-partial
returns-clause-partial g c =
    λ h. c.append_bit.ensures.partial (λ e.
    h (ap (λ b. bit_len g.row.N b % (8 * g.row.N)) (sym c.self.view_is) ∙ rest_of_len _ _ ∙ e))
