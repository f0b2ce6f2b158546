use Rattle.std.proofs.Common.{◌≡◌, ◌+◌, ◌-◌, ◌*◌, ◌/◌, ◌%◌, ◌∙◌, ap, eqb, inl, inr, arith}
use Rattle.std.specs.Int.{bit_at}
use Rattle.std.proofs.lemmas.Bool.{cases_lt}
use Rattle.bitmap_bytes.specs.Chunk.{bytes_bit}
use Rattle.bitmap_c.proofs.bytes.copy_bytes.Goals as goal

pub loop-at-preserved : goal.loop-at-preserved
loop-at-preserved g c =
    let m = g.B.Readable.meaning c.args.bitmap.now in
    let part = c.copy_part-at.ensures in
    record {
      within = omega (arith, part.within, c.loop-at.invariant.size);
      size = part.size ∙ c.loop-at.invariant.size;
      done = λ i h w. elim (cases_lt i (8 * c.loop-at.at)) [
        | inl low ↦
            ap (λ x. eqb (bit_at x (i % 8)) 1) (part.before (i / 8) (omega arith)) ∙ c.loop-at.invariant.done i low w
        | inr high ↦
            let here : i ≡ 8 * c.loop-at.at + (i - 8 * c.loop-at.at) = omega arith in
            let e : 8 * (c.args.first + c.loop-at.at) + (i - 8 * c.loop-at.at) ≡ 8 * c.args.first + i = omega arith in
            ap (bytes_bit c.copy_part-at.new.out) here
            ∙ part.copied (i - 8 * c.loop-at.at) (omega arith) (omega arith)
            ∙ ap m.bit e
      ];
    }
