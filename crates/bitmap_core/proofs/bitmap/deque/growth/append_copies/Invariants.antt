use Rattle.std.proofs.Common.{◌≡◌, ◌+◌, ◌-◌, ◌≤◌, ◌++◌, replicate}
use Rattle.bitmap_core.proofs.bitmap.deque.growth.append_copies.Given as goal

abbrev pub invariant-loop : goal.invariant-loop
invariant-loop g l = record {
  items : l.chunks.items ≡ l.fn.chunks.items ++ replicate l.counter l.chunk;
  space : l.chunks.len + (l.count - l.counter) ≤ l.chunks.cap;
}
