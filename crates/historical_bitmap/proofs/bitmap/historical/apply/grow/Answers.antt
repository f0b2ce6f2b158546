use Rattle.std.proofs.Common.{ap, ◌∙◌}
use Rattle.historical_bitmap.specs.Pending.{pending_bits}
use Rattle.historical_bitmap.proofs.Pending.Applied.{pending_grown}
use Rattle.historical_bitmap.proofs.bitmap.historical.apply.grow.Goals as goal

pub returns-clause-pending : goal.returns-clause-pending
returns-clause-pending g c = λ l e fits. ap (λ b. pending_bits g.row.N b l) c.in_ok-extend_to.ensures.ok ∙ pending_grown g.row.N c.args.current.now l c.args.len fits.prefix
