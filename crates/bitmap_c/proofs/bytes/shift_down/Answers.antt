use Rattle.std.proofs.Common.{◌≡◌, ℕ, ◌+◌, ◌-◌, ◌*◌, ◌/◌, ◌%◌, ◌≤◌, ◌∙◌, ◌++◌, [], ◌∷◌, length, take, drop, ap, eqb, inl, inr, arith}
use Rattle.std.specs.Int.{bit_at}
use Rattle.std.proofs.lemmas.Bool.{cases_lt}
use Rattle.std.proofs.lemmas.List.{length-drop, take_all}
use Rattle.bitmap_bytes.specs.Chunk.{bytes_bit}
use Rattle.bitmap_c.proofs.Packed.{block_shifted}
use Rattle.bitmap_c.proofs.bytes.shift_down.Goals as goal

pub loop-at-preserved : goal.loop-at-preserved
loop-at-preserved c =
    let loop = c.loop-at.invariant in
    let copy = c.copy_to-at.ensures in
    let few : c.copy_to-at.result ≤ 64 = omega (arith, copy.count) in
    let rest : take (length c.loop-at.bytes - c.loop-at.at) (drop c.loop-at.at c.loop-at.bytes) ≡ drop c.loop-at.at c.loop-at.bytes =
    take_all (length c.loop-at.bytes - c.loop-at.at) (drop c.loop-at.at c.loop-at.bytes) (omega (arith, length-drop {A = ℕ} c.loop-at.at c.loop-at.bytes)) in
    record {
      within = omega (arith, copy.count, loop.within, loop.size);
      size = copy.size ∙ loop.size;
      done = λ i h. elim (cases_lt i (8 * c.loop-at.at)) [
        | inl low ↦ ap (λ x. eqb (bit_at x (i % 8)) 1) (copy.before (i / 8) (omega arith)) ∙ loop.done i low
        | inr high ↦
            block_shifted c.args.bytes.now c.loop-at.bytes c.chunk_from-block.result c.copy_to-at.new.out c.args.next c.args.skip c.loop-at.at
            c.copy_to-at.result loop.size loop.within few loop.rest
            (λ k. c.chunk_from-block.ensures k ∙ ap (λ l. bytes_bit (l ++ c.args.next ∷ []) (c.args.skip + k % 512)) rest)
            copy.copied i high h
      ];
      rest = λ k h. copy.after k h ∙ loop.rest k (omega arith);
    }
