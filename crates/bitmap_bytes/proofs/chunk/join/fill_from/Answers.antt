use Rattle.std.proofs.Common.{◌≡◌, ◌*◌, ◌/◌, ◌%◌, ◌+◌, ◌-◌, ◌∙◌, ◌++◌, ap, eqb, inl, inr, set, get_or, arith}
use Rattle.std.specs.Int.{bit_at}
use Rattle.std.proofs.Math.Nat.{div-add-mod}
use Rattle.std.proofs.lemmas.List.{length-set, get_or-set_same, get_or-set_other}
use Rattle.std.proofs.lemmas.Bool.{cases_eq}
use Rattle.bitmap_bytes.specs.Chunk.{bytes_bit}
use Rattle.bitmap_bytes.proofs.Bytes.Shifted.{filled_bits, kept_bits}
use Rattle.bitmap_bytes.proofs.chunk.join.fill_from.Goals as goal

pub loop-j-preserved : goal.loop-j-preserved
loop-j-preserved g c = record {
  size = length-set _ _ _ ∙ c.loop-j.invariant.size;
  kept = λ k h. get_or-set_other c.loop-j.chunk c.loop-j.j k _ 0 (λ e. absurd (omega arith)) ∙ c.loop-j.invariant.kept k h;
  done = λ k t u h w. elim (cases_eq k c.loop-j.j) [
    | inl e ↦
        let q : 8 * (c.args.bit / 8 + (c.loop-j.j - c.args.from)) + c.args.bit % 8 + t ≡ c.args.bit + (8 * (k - c.args.from) + t) =
        omega (arith, div-add-mod c.args.bit 8) in
        ap (λ m. eqb (bit_at (get_or (set c.loop-j.chunk c.loop-j.j c.bits_from.result) m 0) t) 1) e
        ∙ ap (λ x. eqb (bit_at x t) 1) (get_or-set_same c.loop-j.chunk c.loop-j.j c.bits_from.result 0 (omega (arith, c.loop-j.invariant.size)))
        ∙ c.bits_from.ensures t w
        ∙ ap (bytes_bit (c.args.front.now ++ c.args.back.now)) q
    | inr e ↦ ap (λ x. eqb (bit_at x t) 1) (get_or-set_other c.loop-j.chunk c.loop-j.j k _ 0 e) ∙ c.loop-j.invariant.done k t u (omega arith) w
  ];
}

pub returns-clause-kept : goal.returns-clause-kept
returns-clause-kept g c = kept_bits _ _ _ _ c.requires.width.positive c.loop-j.invariant.kept

pub returns-clause-filled : goal.returns-clause-filled
returns-clause-filled g c = filled_bits _ _ _ _ _ c.requires.width.positive (λ k t u h w. c.loop-j.invariant.done k t u (omega arith) w)
