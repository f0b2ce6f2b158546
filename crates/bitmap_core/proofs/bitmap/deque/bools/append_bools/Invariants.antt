use Rattle.std.proofs.Common.{◌≡◌, ◌+◌, ◌-◌, ◌*◌, ◌++◌}
use Rattle.bitmap_bytes.specs.Bits.{bits}
use Rattle.bitmap_core.proofs.bitmap.deque.bools.append_bools.Given as goal

abbrev pub invariant-loop-i : goal.invariant-loop-i
invariant-loop-i g l = record {
  left : l.left ≡ l.len - 8 * g.row.N * l.i;
  items : l.bools.items ≡ l.fn.bools.items ++ bits g.row.N l.chunks.items (l.len - l.left);
  len : l.bools.len ≡ l.fn.bools.len + (l.len - l.left);
  capacity : l.bools.cap ≡ l.fn.bools.cap;
}
