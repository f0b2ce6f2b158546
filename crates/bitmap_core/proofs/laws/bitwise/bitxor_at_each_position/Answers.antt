use Rattle.std.proofs.Math.Bool.{xor}
use Rattle.std.proofs.lemmas.Result.{IfOk-weaker}
use Rattle.bitmap_core.proofs.Lists.BitByBit.{joined_len, joined_at}
use Rattle.bitmap_core.proofs.laws.bitwise.bitxor_at_each_position.Goals as goal

pub returns-clause-len : goal.returns-clause-len
returns-clause-len g c = IfOk-weaker c.bitxor.result _ _ (λ u e. joined_len xor c.args.a.now c.args.b.now u c.requires e) c.bitxor.ensures

pub returns-clause-bits : goal.returns-clause-bits
returns-clause-bits g c = IfOk-weaker c.bitxor.result _ _ (λ u e. joined_at xor c.args.a.now c.args.b.now u c.requires e) c.bitxor.ensures
