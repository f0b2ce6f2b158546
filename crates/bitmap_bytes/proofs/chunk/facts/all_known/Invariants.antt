use Rattle.std.proofs.Common.{ℕ, ◌<◌, get_or, []}
use Rattle.bitmap_bytes.specs.Chunk.{IsChunk}
use Rattle.bitmap_bytes.proofs.chunk.facts.all_known.Given as goal

abbrev pub invariant-loop-i : goal.invariant-loop-i
invariant-loop-i g l = (k : ℕ) → k < l.i → IsChunk g.row.N (get_or l.chunks k [])
