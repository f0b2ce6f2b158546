use Rattle.std.proofs.Common.{◌≡◌, ◌*◌}
use Rattle.bitmap_bytes.proofs.Counting.Ones.{ones_from}
use Rattle.bitmap_bytes.specs.Chunk.{bytes_bit}
use Rattle.bitmap_bytes.proofs.chunk.words.byte_ones.Given as goal

abbrev pub invariant-loop-byte : goal.invariant-loop-byte
invariant-loop-byte l = l.total ≡ ones_from (bytes_bit l.bytes) 0 (8 * l.byte-index)
