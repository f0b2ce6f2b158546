use Rattle.std.proofs.Common.{◌%◌, ◌*◌, ◌∙◌, ap, arith}
use Rattle.std.proofs.lemmas.Bool.{false≢true}
use Rattle.bitmap_bytes.proofs.Lists.Bits.{len_is, bits-same}
use Rattle.bitmap_core.proofs.Lists.Edits.{bits-push}
use Rattle.bitmap_bytes.proofs.Chunks.Lists.{IsBitPut_same}
use Rattle.bitmap_core.proofs.bitmap.BitMap.append_bit.Goals as goal
use Rattle.bitmap_core.proofs.bitmap.BitMap.append_bit.Goals.{then-bit, else-bit}

pub returns-in_err-make_space-clause-partial : goal.returns-in_err-make_space-clause-partial
returns-in_err-make_space-clause-partial g c =
    λ h. absurd (false≢true (c.in_err-make_space.ensures.partial (λ q. h (ap (λ x. x % (8 * g.row.N)) (len_is _ _ _ _ c.self.view_is) ∙ q))))

pub overflow_add-self : goal.overflow_add-self
overflow_add-self g c = omega (arith, len_is _ _ _ _ c.self.view_is)

pub returns-clause-ok : goal.returns-clause-ok
returns-clause-ok g c =
    let cached = c.self.invariant in
    let e = bits-same _ _ _ _ (λ i _. c.in_ok-make_space.ensures.same i) ∙ c.self.view_is in
    elim c.if-bit.branch [
      | then-bit w ↦ rw (w.self-inside-is, w.if-bit.true) (bits-push _ _ _ _ _ _ w.set_bit.ensures e)
      | else-bit w ↦
          rw (w.self-inside-is, w.if-bit.false)
          (bits-push _ _ _ _ _ _ (IsBitPut_same _ _ _ _ (c.in_ok-make_space.ensures.same _ ∙ cached.zero _ (omega arith))) e)
    ]
