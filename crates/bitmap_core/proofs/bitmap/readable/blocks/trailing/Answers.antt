use Rattle.std.proofs.Common.{◌≡◌, ◌+◌, ◌-◌, ◌*◌, ◌∙◌, inl, inr, sym, ap, arith}
use Rattle.std.proofs.lemmas.Bool.{cases_lt}
use Rattle.bitmap_core.proofs.Slices.{none_wanted}
use Rattle.bitmap_core.proofs.bitmap.readable.blocks.trailing.Goals as goal

pub loop-size-preserved : goal.loop-size-preserved
loop-size-preserved g c =
    let loop = c.loop-size.invariant in
    let left = c.loop-size.left in
    let rest = left - c.loop-size.size in
    let whole : rest + (left - rest) ≡ left = omega (arith, loop.taken) in
    record {
      within = omega (arith, loop.within);
      taken = omega (arith, c.min-size-in-loop-size.ensures);
      small = omega (arith, c.min.ensures, c.min-size-in-loop-size.ensures);
      none = λ i low high. elim (cases_lt i (8 * g.row.N * left)) [
        | inl lt ↦
            none_wanted g.row.N rest (left - rest) c.args.chunks.now c.args.wanted c.requires.width.positive (omega (arith, loop.within))
            (sym c.wanted_in.ensures ∙ omega arith) i low (omega (arith, ap (λ k. 8 * g.row.N * k) whole))
        | inr ge ↦ loop.none i ge high
      ];
    }
