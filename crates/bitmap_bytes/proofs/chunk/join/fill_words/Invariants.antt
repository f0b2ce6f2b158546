use Rattle.std.proofs.Common.{◌≡◌, ℕ, ◌+◌, ◌*◌, ◌<◌, length, get_or, eqb}
use Rattle.std.specs.Int.{bit_at}
use Rattle.bitmap_bytes.specs.Chunk.{bytes_bit}
use Rattle.bitmap_bytes.proofs.chunk.join.fill_words.Given as goal

abbrev pub invariant-loop-word : goal.invariant-loop-word
invariant-loop-word g l = record {
  size : length l.chunk ≡ g.row.N;
  done : (k t : ℕ) → k < 8 * l.word → t < 8 → eqb (bit_at (get_or l.chunk k 0) t) 1 ≡ bytes_bit l.bytes (l.skip + (8 * k + t));
}
