use Rattle.bitmap_core.proofs.Lists.Members.{ones_between-ascend, ones-exact}
use Rattle.bitmap_core.proofs.laws.positions.set_positions.Goals as goal

pub returns-clause-ascend : goal.returns-clause-ascend
returns-clause-ascend c n m a b = ones_between-ascend m.bit _ _

pub returns-clause-exact : goal.returns-clause-exact
returns-clause-exact c = ones-exact
