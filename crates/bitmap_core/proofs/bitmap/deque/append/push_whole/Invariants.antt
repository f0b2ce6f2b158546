use Rattle.std.proofs.Common.{◌≡◌, ℕ, ◌-◌, ◌*◌, ◌/◌, ◌<◌, ◌≤◌, ◌++◌, length}
use Rattle.std.specs.VecDeque.{deque_capacity}
use Rattle.bitmap_bytes.specs.Chunk.{bytes_bit}
use Rattle.bitmap_bytes.specs.Bits.{chunks_bit}
use Rattle.bitmap_core.proofs.bitmap.deque.append.push_whole.Given as goal

abbrev pub invariant-loop-chunks : goal.invariant-loop-chunks
invariant-loop-chunks g l = record {
  capacity : l.count ≤ deque_capacity l.chunks;
  within : length l.chunks.items ≤ l.count;
  more : length l.fn.chunks.items ≤ length l.chunks.items;
  kept : (i : ℕ) → i / (8 * g.row.N) < length l.fn.chunks.items → chunks_bit g.row.N l.chunks.items i ≡ chunks_bit g.row.N l.fn.chunks.items i;
  done : (i : ℕ) → length l.fn.chunks.items ≤ i / (8 * g.row.N) → i / (8 * g.row.N) < length l.chunks.items
      → chunks_bit g.row.N l.chunks.items i ≡ bytes_bit (l.front ++ l.back) (i - l.len);
}

abbrev pub decreases-loop-chunks : goal.decreases-loop-chunks
decreases-loop-chunks g l = l.count - length l.chunks.items
