use Rattle.std.proofs.Common.{◌∙◌, ◌+◌, ◌<◌, ◌∷◌, ap, drop, false, length, refl, sym, arith}
use Rattle.std.proofs.lemmas.List.{drop_more}
use Rattle.bitmap_core.proofs.bitmap.iter.IteratorIterator.next.Goals as goal
use Rattle.bitmap_core.proofs.bitmap.iter.IteratorIterator.next.Goals.{then-position-eq0, else-position-eq0}

pub returns-clause-steps : goal.returns-clause-steps
returns-clause-steps g c =
    let bits = c.self.inside.bitmap.now in
    let position = c.self.inside.position in
    let inside : position < length bits = omega (arith, c.len.ensures.value, c.self.invariant.within) in
    let step = sym c.self.view_is ∙ drop_more bits position false inside in
    elim c.if-position-eq0.branch [
      | then-position-eq0 w ↦
          let read = (rw w.self-inside-is at c.get_bit.ensures) ∙ w.read_byte-self-inside.ensures position refl in
          rw w.self-inside-is (step ∙ ap (λ b. b ∷ drop (position + 1) bits) (sym read))
      | else-position-eq0 w ↦
          let read = (rw w.self-inside-is at c.get_bit.ensures) ∙ c.self.invariant.held position w.if-position-eq0.false refl in
          rw w.self-inside-is (step ∙ ap (λ b. b ∷ drop (position + 1) bits) (sym read))
    ]
