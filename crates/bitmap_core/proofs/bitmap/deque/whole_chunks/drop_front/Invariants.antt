use Rattle.std.proofs.Common.{◌≡◌, drop}
use Rattle.bitmap_core.proofs.bitmap.deque.whole_chunks.drop_front.Given as goal

abbrev pub invariant-loop : goal.invariant-loop
invariant-loop g l = l.chunks.items ≡ drop l.counter l.initial.chunks.items
