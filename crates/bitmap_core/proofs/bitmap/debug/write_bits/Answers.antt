use Rattle.std.proofs.Common.{arith, refl}
use Rattle.std.proofs.lemmas.Grind.{common_steps}
use Rattle.bitmap_core.proofs.Codec.Styled.{styled_two}
use Rattle.bitmap_core.proofs.bitmap.debug.write_bits.Goals as goal

pub loop-i-preserved : goal.loop-i-preserved
loop-i-preserved g c =
    let loop = c.loop-i.invariant in
    record {
      plain = grind (arith, common_steps);
      styled = λ flush. let p = loop.styled flush in styled_two _ _ _ _ _ _ _ p (c.in_ok-write_str.ensures.styled p.flush refl) (grind (arith, common_steps));
    }
