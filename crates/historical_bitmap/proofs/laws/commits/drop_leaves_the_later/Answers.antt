use Rattle.std.proofs.Common.{ap, ◌∙◌}
use Rattle.historical_bitmap.specs.History.{kept_under}
use Rattle.historical_bitmap.proofs.History.KeptUnder.{kept_from_number}
use Rattle.historical_bitmap.proofs.laws.commits.drop_leaves_the_later.Goals as goal

pub returns-clause-states : goal.returns-clause-states
returns-clause-states g c = λ k. ap (λ history. kept_under history k) c.prune_commits_before.ensures.history ∙ kept_from_number c.args.number k _
