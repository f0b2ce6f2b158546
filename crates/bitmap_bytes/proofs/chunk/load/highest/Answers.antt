use Rattle.std.proofs.Common.{ap, eqb, arith}
use Rattle.bitmap_bytes.proofs.Words.Masks.{highest_one}
use Rattle.bitmap_bytes.proofs.chunk.load.highest.Goals as goal

pub returns-clause-set : goal.returns-clause-set
returns-clause-set c = ap (λ x. eqb x 1) (highest_one c.args.word c.requires (omega arith)).1

pub returns-clause-highest : goal.returns-clause-highest
returns-clause-highest c t s = ap (λ x. eqb x 1) ((highest_one c.args.word c.requires (omega arith)).2 t s)
