use Rattle.std.proofs.Common.{arith}
use Rattle.conformance.proofs.ShownBits.{full_chunk}
use Rattle.conformance.proofs.readers.CountingReadable9.get_chunk.Goals as goal

pub returns : goal.returns
returns c k h i = full_chunk 9 k (omega arith)
