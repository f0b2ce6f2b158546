use Rattle.std.proofs.Common.{◌≡◌, ◌+◌, ◌++◌, map}
use Rattle.std.specs.List.{range_with_len}
use Rattle.bitmap_bytes.specs.Chunk.{chunk_bit}
use Rattle.bitmap_bytes.proofs.chunk.append_bools.Given as goal

abbrev pub invariant-loop-i : goal.invariant-loop-i
invariant-loop-i g l = record {
  items : l.bools.items ≡ l.fn.bools.items ++ map (chunk_bit g.row.N l.chunk) (range_with_len 0 l.i);
  len : l.bools.len ≡ l.fn.bools.len + l.i;
  capacity : l.bools.cap ≡ l.fn.bools.cap;
}
