use Rattle.std.proofs.Common.{◌≡◌, ℕ, ◌<◌, [], false, get_or}
use Rattle.bitmap_bytes.specs.Chunk.{chunk_bit}
use Rattle.bitmap_bytes.proofs.chunk.pairs.blocks_give_none.Given as goal

abbrev pub invariant-loop-i : goal.invariant-loop-i
invariant-loop-i g l = (k : ℕ) → k < l.i → (t : ℕ) → g.B.Bitwise.gives (chunk_bit g.row.M (get_or l.a k []) t) (chunk_bit g.row.M (get_or l.b k []) t) ≡ false
