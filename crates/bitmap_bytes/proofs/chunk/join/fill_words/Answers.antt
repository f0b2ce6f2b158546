use Rattle.std.proofs.Common.{◌≡◌, ◌+◌, ◌-◌, ◌*◌, ◌∙◌, ap, eqb, get_or, inl, inr, arith}
use Rattle.std.specs.Int.{bit_at}
use Rattle.std.proofs.lemmas.Bool.{cases_lt}
use Rattle.bitmap_bytes.specs.Chunk.{bytes_bit}
use Rattle.bitmap_bytes.proofs.chunk.join.fill_words.Goals as goal

pub loop-word-preserved : goal.loop-word-preserved
loop-word-preserved g c = record {
  size = c.put_word.ensures.size;
  done = λ k t h s. elim (cases_lt k (8 * c.loop-word.word)) [
    | inl u ↦ ap (λ x. eqb (bit_at x t) 1) (c.put_word.ensures.kept k u) ∙ c.loop-word.invariant.done k t u s
    | inr u ↦
        let e : k ≡ 8 * c.loop-word.word + (k - 8 * c.loop-word.word) = omega arith in
        let q : 8 * (8 * c.loop-word.word) + c.args.skip + (8 * (k - 8 * c.loop-word.word) + t) ≡ c.args.skip + (8 * k + t) = omega arith in
        ap (λ m. eqb (bit_at (get_or c.put_word.new.chunk m 0) t) 1) e
        ∙ ap (λ x. eqb x 1) (c.put_word.ensures.here (k - 8 * c.loop-word.word) t (omega arith) s)
        ∙ c.word_from.ensures (8 * (k - 8 * c.loop-word.word) + t) (omega arith)
        ∙ ap (bytes_bit c.args.bytes.now) q
  ];
}
