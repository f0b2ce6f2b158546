use Rattle.std.proofs.Common.{◌≡◌, ◌*◌, inl, inr, length, ap, ◌∙◌, arith}
use Rattle.std.proofs.lemmas.Bool.{cases_lt}
use Rattle.bitmap_core.proofs.Slices.{aligned_after}
use Rattle.bitmap_core.proofs.bitmap.readable.in_place.run_from.Goals as goal

pub returns-clause-within : goal.returns-clause-within
returns-clause-within g c = omega (arith, c.words_of.ensures.within, c.slice_from.ensures.within)

pub returns-clause-whole : goal.returns-clause-whole
returns-clause-whole g c = λ some.
    elim (cases_lt 0 (length c.slice_from.result.now)) [
      | inl h ↦ aligned_after (8 * g.row.N) c.args.at _ (c.slice_from.ensures.aligned h) c.words_of.ensures.whole
      | inr none ↦
          let e : length c.slice_from.result.now ≡ 0 = omega arith in
          absurd (omega (arith, c.words_of.ensures.within, ap (λ k. 8 * g.row.N * k) e))
    ]

pub returns-clause-bits : goal.returns-clause-bits
returns-clause-bits g c = λ i h. c.words_of.ensures.bits i h ∙ c.slice_from.ensures.bits i (omega (arith, c.words_of.ensures.within))
