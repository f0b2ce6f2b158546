use Rattle.std.proofs.Common.{ap, ◌∙◌}
use Rattle.std.proofs.lemmas.Result.{IfOk-weaker}
use Rattle.historical_bitmap.specs.History.{kept_under}
use Rattle.historical_bitmap.proofs.History.KeptUnder.{kept_up_to_number}
use Rattle.historical_bitmap.proofs.laws.rewinding.rewinding_leaves_the_earlier.Goals as goal

pub returns : goal.returns
returns g c =
    IfOk-weaker c.rewind_to.result _ _ (λ back e k. ap (λ history. kept_under history k) e ∙ kept_up_to_number c.args.number k _) c.rewind_to.ensures.history
