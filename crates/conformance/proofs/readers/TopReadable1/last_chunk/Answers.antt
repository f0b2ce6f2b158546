use Rattle.std.proofs.Common.{arith}
use Rattle.conformance.proofs.ShownBits.{full_chunk}
use Rattle.conformance.proofs.readers.TopReadable1.last_chunk.Goals as goal

pub returns-clause-chunk : goal.returns-clause-chunk
returns-clause-chunk c k h i = full_chunk 1 k (omega arith)
