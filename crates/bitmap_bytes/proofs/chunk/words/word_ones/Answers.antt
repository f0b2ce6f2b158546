use Rattle.std.proofs.Common.{◌≡◌, ◌*◌, ◌+◌, ◌∙◌, length, sym, ap, arith}
use Rattle.bitmap_bytes.specs.Bits.{chunks_bit}
use Rattle.bitmap_bytes.proofs.Counting.Ones.{ones_from, count-bits}
use Rattle.bitmap_bytes.proofs.Counting.Words.{more_word}
use Rattle.bitmap_bytes.proofs.Counting.Places.{ones_from_mono}
use Rattle.bitmap_bytes.proofs.chunk.words.word_ones.Goals as goal

pub overflow_add-total : goal.overflow_add-total
overflow_add-total c =
    omega (
      arith,
      more_word _ _ _ _ _ c.loop-word-test.true c.load.type_inv c.load.ensures c.loop-word.invariant,
      ones_from_mono (chunks_bit 8 c.args.words.now) (64 * (c.loop-word.word-index + 1)) (64 * length c.args.words.now) (omega arith),
      count-bits 8 c.args.words.now (64 * length c.args.words.now),
    )

pub loop-word-preserved : goal.loop-word-preserved
loop-word-preserved c =
    more_word _ _ _ _ _ c.loop-word-test.true c.load.type_inv c.load.ensures c.loop-word.invariant

pub returns : goal.returns
returns c =
    let e : c.loop-word.word-index ≡ length c.args.words.now = omega arith in
    c.loop-word.invariant
    ∙ ap (λ k. ones_from (chunks_bit 8 c.args.words.now) 0 (64 * k)) e
    ∙ sym (count-bits 8 c.args.words.now (64 * length c.args.words.now))
