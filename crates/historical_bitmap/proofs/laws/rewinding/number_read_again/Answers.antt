use Rattle.std.proofs.Common.{ap, ◌∙◌}
use Rattle.historical_bitmap.specs.History.{kept_under}
use Rattle.historical_bitmap.specs.View.{history_of}
use Rattle.historical_bitmap.proofs.History.KeptUnder.{kept_itself}
use Rattle.historical_bitmap.proofs.laws.rewinding.number_read_again.Goals as goal

pub returns-in-Ok-clause-before : goal.returns-in-Ok-clause-before
returns-in-Ok-clause-before g c =
    c.in-Ok.ensures.ok ∙ (ap (λ history. kept_under history c.args.number) c.in_ok-back.ensures.history ∙ kept_itself c.args.number (history_of g.row.N c.args.bitmap))

pub returns-in-Ok-clause-current : goal.returns-in-Ok-clause-current
returns-in-Ok-clause-current g c = returns-in-Ok-clause-before g c ∙ c.in_ok-back.ensures.current
