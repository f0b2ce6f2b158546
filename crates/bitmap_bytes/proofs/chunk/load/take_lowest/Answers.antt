use Rattle.std.proofs.Common.{ap, eqb, arith}
use Rattle.bitmap_bytes.proofs.Words.Masks.{lowest, without_here, without_other}
use Rattle.bitmap_bytes.proofs.chunk.load.take_lowest.Goals as goal

pub returns-clause-set : goal.returns-clause-set
returns-clause-set c = ap (λ x. eqb x 1) (lowest c.args.word.now c.requires (omega arith)).1

pub returns-clause-lowest : goal.returns-clause-lowest
returns-clause-lowest c t s = ap (λ x. eqb x 1) ((lowest c.args.word.now c.requires (omega arith)).2 t s)

pub returns-clause-cleared : goal.returns-clause-cleared
returns-clause-cleared c = let l = lowest c.args.word.now c.requires (omega arith) in ap (λ x. eqb x 1) (without_here c.args.word.now _ l.1 l.2)

pub returns-clause-others : goal.returns-clause-others
returns-clause-others c t s d =
    let l = lowest c.args.word.now c.requires (omega arith) in
    ap (λ x. eqb x 1) (without_other c.args.word.now _ l.1 l.2 t d)
