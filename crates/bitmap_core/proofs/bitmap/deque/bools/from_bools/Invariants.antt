use Rattle.std.proofs.Common.{◌≡◌, ℕ, ◌*◌, ◌<◌, ◌≤◌, false, get_or}
use Rattle.bitmap_bytes.specs.Bits.{chunks_bit}
use Rattle.bitmap_core.proofs.bitmap.deque.bools.from_bools.Given as goal

abbrev pub invariant-loop-i : goal.invariant-loop-i
invariant-loop-i g l = record {
  len : l.chunks.len ≡ l.i;
  space : l.count ≤ l.chunks.cap;
  bits : (k : ℕ) → k < 8 * g.row.N * l.i → chunks_bit g.row.N l.chunks.items k ≡ get_or l.bools k false;
}
