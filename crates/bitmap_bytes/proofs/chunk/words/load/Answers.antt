use Rattle.std.proofs.Common.{◌∙◌, ap, eqb}
use Rattle.std.specs.Int.{bit_at}
use Rattle.bitmap_bytes.proofs.Counting.Words.{word_chunk_bit}
use Rattle.bitmap_bytes.proofs.chunk.words.load.Goals as goal

pub returns : goal.returns
returns c = λ t s. ap (λ x. eqb (bit_at x t) 1) c.from_le_bytes.ensures ∙ word_chunk_bit _ _ c.fits-word s
