use Rattle.std.proofs.Common.{◌%◌, ◌*◌, ◌∙◌, ap, arith, sym}
use Rattle.std.proofs.lemmas.Bool.{false≢true}
use Rattle.bitmap_bytes.proofs.Lists.Bits.{bits-same, len_is}
use Rattle.bitmap_core.proofs.Chunks.ByteWritten.{bits-byte, IsChunkCount-byte, IsZeroFrom-byte}
use Rattle.bitmap_core.proofs.bitmap.BitMap.append_byte.Goals as goal

pub returns-in_err-make_space-clause-partial : goal.returns-in_err-make_space-clause-partial
returns-in_err-make_space-clause-partial g c =
    λ h. absurd (false≢true (c.in_err-make_space.ensures.partial (λ q. h (ap (λ x. x % (8 * g.row.N)) (len_is _ _ _ _ c.self.view_is) ∙ q))))

pub overflow_add-self : goal.overflow_add-self
overflow_add-self g c = omega (arith, len_is _ _ _ _ c.self.view_is)

pub invariant_of-self-2 : goal.invariant_of-self-2
invariant_of-self-2 g c =
    let a = ap (λ x. x % 8) (sym (len_is _ _ _ _ c.self.view_is)) ∙ c.requires.aligned in
    record {
      width = c.self.invariant.width;
      count = rw c.set_byte.ensures.count (IsChunkCount-byte _ _ _ a c.in_ok-make_space.ensures.space);
      zero = IsZeroFrom-byte _ _ _ _ _ a c.set_byte.ensures (λ i h. c.in_ok-make_space.ensures.same i ∙ c.self.invariant.zero i h);
    }

pub returns-clause-ok : goal.returns-clause-ok
returns-clause-ok g c =
    let a = ap (λ x. x % 8) (sym (len_is _ _ _ _ c.self.view_is)) ∙ c.requires.aligned in
    bits-byte _ _ _ _ _ _ a c.set_byte.ensures (bits-same _ _ _ _ (λ i _. c.in_ok-make_space.ensures.same i) ∙ c.self.view_is)
