use Rattle.std.proofs.Common.{arith, true, refl, sym, subst}
use Rattle.std.proofs.lemmas.Grind.{common_steps}
use Rattle.std.specs.Fmt.{HasWrittenStyled}
use Rattle.bitmap_core.proofs.Codec.Styled.{styled_two}
use Rattle.bitmap_core.proofs.bitmap.debug.BitMapDebug.fmt.Goals.{then-len-le-SHOWN_WHOLE+in_ok-write_bits, else-len-le-SHOWN_WHOLE+in_ok-write_bits-2+in_ok-write_str-2+in_ok-write_bits-3}
use Rattle.bitmap_core.proofs.bitmap.debug.BitMapDebug.fmt.Goals as goal

pub returns-clause-styled : goal.returns-clause-styled
returns-clause-styled g c = λ flush ok.
    let a = c.in_ok-write_str.ensures.styled flush (refl {a = true}) in
    elim c.if-len-le-SHOWN_WHOLE.branch [
      | then-len-le-SHOWN_WHOLE+in_ok-write_bits w ↦
          let b = subst (HasWrittenStyled g.W.Write.write_str_gives c.write_str.new.self _) (sym w.f-is)
          (w.in_ok-write_bits.ensures.styled a.flush (refl {a = true})) in
          styled_two _ _ _ _ _ _ _ a (styled_two _ _ _ _ _ _ _ b (c.write_str-2.ensures.styled b.flush ok) refl) (grind (arith, common_steps))
      | else-len-le-SHOWN_WHOLE+in_ok-write_bits-2+in_ok-write_str-2+in_ok-write_bits-3 w ↦
          let b = w.in_ok-write_bits-2.ensures.styled a.flush (refl {a = true}) in
          let d = w.in_ok-write_str-2.ensures.styled b.flush (refl {a = true}) in
          let e = subst (HasWrittenStyled g.W.Write.write_str_gives w.write_str-else-len-le-SHOWN_WHOLE.new.self _) (sym w.f-is)
          (w.in_ok-write_bits-3.ensures.styled d.flush (refl {a = true})) in
          styled_two _ _ _ _ _ _ _ a
          (styled_two _ _ _ _ _ _ _ (styled_two _ _ _ _ _ _ _ b (styled_two _ _ _ _ _ _ _ d e refl) refl) (c.write_str-2.ensures.styled e.flush ok) refl)
          (grind (arith, common_steps))
    ]
