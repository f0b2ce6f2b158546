use Rattle.std.proofs.Common.{◌∙◌, ◌/◌, ◌%◌, ap, eqb, arith}
use Rattle.std.specs.Int.{bit_at}
use Rattle.std.proofs.lemmas.Nat.{mod_below}
use Rattle.bitmap_bytes.proofs.Bytes.Bits.{flip_bit}
use Rattle.bitmap_bytes.proofs.chunk.whole.flip.Goals as goal

pub returns : goal.returns
returns g c = λ i.
    ap (λ x. eqb (bit_at x (i % 8)) 1) (c.loop-byte.invariant.done (i / 8 % g.row.N) (omega (arith, mod_below (i / 8) g.row.N c.requires)))
    ∙ flip_bit _ _ (c.fit.ensures _) (mod_below i 8 (omega arith))
