use Rattle.std.proofs.Common.{◌≡◌, ◌+◌, ◌≤◌, ◌++◌, drop, length, deque_len, deque_capacity}
use Rattle.bitmap_core.proofs.bitmap.deque.whole_chunks.put_front.Given as goal

abbrev pub invariant-loop-left : goal.invariant-loop-left
invariant-loop-left g l = record {
  within : l.left ≤ length l.front;
  space : deque_len l.chunks + l.left ≤ deque_capacity l.chunks;
  items : l.chunks.items ≡ drop l.left l.front ++ l.initial.chunks.items;
}

abbrev pub decreases-loop-left : goal.decreases-loop-left
decreases-loop-left g l = l.left
