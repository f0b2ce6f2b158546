use Rattle.std.proofs.Common.{◌≡◌, ◌*◌}
use Rattle.bitmap_bytes.specs.Bits.{chunks_bit}
use Rattle.bitmap_bytes.proofs.Counting.Ones.{ones_from}
use Rattle.bitmap_bytes.proofs.chunk.words.word_ones.Given as goal

abbrev pub invariant-loop-word : goal.invariant-loop-word
invariant-loop-word l = l.total ≡ ones_from (chunks_bit 8 l.words) 0 (64 * l.word-index)
