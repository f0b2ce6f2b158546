use Rattle.std.proofs.Common.{ap, not, ◌∙◌, arith}
use Rattle.bitmap_bytes.proofs.Words.Masks.{inverted_bit}
use Rattle.bitmap_bytes.proofs.chunk.load.wanted_below.Goals as goal

pub returns-clause-inside : goal.returns-clause-inside
returns-clause-inside g c i h s t =
    rw c.if-wanted.false (c.low_bits.ensures.kept i h (omega arith)
    ∙ inverted_bit c.word_below-word.result i (omega arith) h
    ∙ ap not (c.word_below-word.ensures.inside i h s t))
