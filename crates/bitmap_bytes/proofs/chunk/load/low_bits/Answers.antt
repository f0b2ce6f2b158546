use Rattle.std.proofs.Common.{ap, eqb}
use Rattle.bitmap_bytes.proofs.Bytes.Bits.{low_bit_below, low_bit_above}
use Rattle.bitmap_bytes.proofs.Words.Masks.{low_mask}
use Rattle.bitmap_bytes.proofs.chunk.load.low_bits.Goals as goal

pub returns-then-count-lt64-clause-kept : goal.returns-then-count-lt64-clause-kept
returns-then-count-lt64-clause-kept c t h s =
    rw (low_mask c.args.count c.if-count-lt64.true) (ap (λ x. eqb x 1) (low_bit_below c.args.word c.args.count t s))

pub returns-then-count-lt64-clause-cut : goal.returns-then-count-lt64-clause-cut
returns-then-count-lt64-clause-cut c t h s =
    rw (low_mask c.args.count c.if-count-lt64.true) (ap (λ x. eqb x 1) (low_bit_above c.args.word c.args.count t s))
