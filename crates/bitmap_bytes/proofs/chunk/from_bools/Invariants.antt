use Rattle.std.proofs.Common.{◌≡◌, ℕ, ◌*◌, ◌<◌, false, length, get_or}
use Rattle.bitmap_bytes.specs.Chunk.{chunk_bit}
use Rattle.bitmap_bytes.proofs.chunk.from_bools.Given as goal

abbrev pub invariant-loop-j : goal.invariant-loop-j
invariant-loop-j g l = record {
  size : length l.chunk ≡ g.row.N;
  done : (k : ℕ) → k < 8 * l.j → chunk_bit g.row.N l.chunk k ≡ get_or l.bools k false;
}
