use Rattle.std.proofs.Common.{◌&&◌, not}
use Rattle.std.proofs.lemmas.Result.{IfOk-weaker}
use Rattle.bitmap_core.proofs.Lists.BitByBit.{joined_len, joined_at}
use Rattle.bitmap_core.proofs.laws.bitwise.sub_at_each_position.Goals as goal

pub returns-clause-len : goal.returns-clause-len
returns-clause-len g c = IfOk-weaker c.sub.result _ _ (λ u e. joined_len (λ x y. x && not y) c.args.a.now c.args.b.now u c.requires e) c.sub.ensures

pub returns-clause-bits : goal.returns-clause-bits
returns-clause-bits g c = IfOk-weaker c.sub.result _ _ (λ u e. joined_at (λ x y. x && not y) c.args.a.now c.args.b.now u c.requires e) c.sub.ensures
