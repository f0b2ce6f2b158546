use Rattle.bitmap_session.proofs.Rewinding.{rewinding}
use Rattle.bitmap_session.proofs.laws.rewinding_restores.Goals as goal

pub returns : goal.returns
returns g c = rewinding g.row.N
