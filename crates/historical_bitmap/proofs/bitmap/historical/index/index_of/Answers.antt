use Rattle.std.proofs.Common.{arith, subst}
use Rattle.std.proofs.lemmas.List.{take_all}
use Rattle.historical_bitmap.specs.Index.{IsIndexOf}
use Rattle.historical_bitmap.proofs.bitmap.historical.index.index_of.Goals as goal

pub returns-clause-ok : goal.returns-clause-ok
returns-clause-ok g c = subst (IsIndexOf c.loop-position.index) (take_all c.loop-position.position c.args.commits.now.items (omega arith)) c.loop-position.invariant
