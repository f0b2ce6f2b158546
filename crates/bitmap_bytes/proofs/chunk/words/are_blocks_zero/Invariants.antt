use Rattle.std.proofs.Common.{◌≡◌, ◌*◌}
use Rattle.bitmap_bytes.specs.Bits.{chunks_bit}
use Rattle.bitmap_bytes.proofs.Counting.Ones.{ones_from}
use Rattle.bitmap_bytes.proofs.chunk.words.are_blocks_zero.Given as goal

abbrev pub invariant-loop-block : goal.invariant-loop-block
invariant-loop-block g l = ones_from (chunks_bit g.row.M l.blocks) 0 (8 * g.row.M * l.block-index) ≡ 0
