use Rattle.std.proofs.Common.{refl}
use Rattle.bitmap_bytes.specs.Chunk.{chunk_bit}
use Rattle.bitmap_bytes.proofs.Bytes.Made.{bytes_are}
use Rattle.bitmap_bytes.proofs.chunk.facts.from_own_bits.Goals as goal

pub returns-clause-bytes : goal.returns-clause-bytes
returns-clause-bytes g c = bytes_are g.row.N c.args.chunk.now (chunk_bit g.row.N c.args.chunk.now) c.told-chunk c.fit.ensures (λ t _. refl)
