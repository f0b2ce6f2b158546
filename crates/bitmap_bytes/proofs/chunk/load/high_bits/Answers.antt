use Rattle.std.proofs.Common.{ap, eqb}
use Rattle.bitmap_bytes.proofs.Words.Masks.{high_bit_kept, high_bit_cut}
use Rattle.bitmap_bytes.proofs.chunk.load.high_bits.Goals as goal

pub returns-clause-kept : goal.returns-clause-kept
returns-clause-kept c t h s = ap (λ x. eqb x 1) (high_bit_kept c.args.word c.args.start t c.requires s h)

pub returns-clause-cut : goal.returns-clause-cut
returns-clause-cut c t s = ap (λ x. eqb x 1) (high_bit_cut c.args.word c.args.start t c.requires s)
