use Rattle.std.proofs.Common.{arith, refl}
use Rattle.bitmap_c.proofs.Packed.{cut_bits}
use Rattle.bitmap_c.proofs.bytes.clear_from.Goals as goal

pub returns-then-used-ne0-clause-kept : goal.returns-then-used-ne0-clause-kept
returns-then-used-ne0-clause-kept c = λ i.
    (cut_bits c.args.bytes.now c.args.count _ (omega (arith, c.if-used-ne0.true)) c.requires (rw c.low_mask.ensures refl) i).0

pub returns-then-used-ne0-clause-cleared : goal.returns-then-used-ne0-clause-cleared
returns-then-used-ne0-clause-cleared c = λ i.
    (cut_bits c.args.bytes.now c.args.count _ (omega (arith, c.if-used-ne0.true)) c.requires (rw c.low_mask.ensures refl) i).1
