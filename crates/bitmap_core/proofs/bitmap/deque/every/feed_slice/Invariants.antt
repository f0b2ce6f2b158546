use Rattle.std.proofs.Common.{◌≡◌, take}
use Rattle.std.specs.List.{fold}
use Rattle.bitmap_core.proofs.bitmap.deque.every.feed_slice.Given as goal

abbrev pub invariant-loop-chunk : goal.invariant-loop-chunk
invariant-loop-chunk g l = l.state ≡ fold g.H.Hasher.write l.fn.state (take l.chunk-index l.chunks)
