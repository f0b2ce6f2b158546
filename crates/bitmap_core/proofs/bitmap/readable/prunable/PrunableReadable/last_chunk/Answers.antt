use Rattle.std.proofs.Common.{◌-◌, ◌*◌, ◌/◌, arith}
use Rattle.bitmap_core.specs.PrunedBits.{bit_len}
use Rattle.bitmap_core.proofs.Meanings.Pruned.{pruned_shows, last_used}
use Rattle.bitmap_core.proofs.bitmap.readable.prunable.PrunableReadable.last_chunk.Goals as goal

pub returns-clause-chunk : goal.returns-clause-chunk
returns-clause-chunk g c =
    pruned_shows _ _ ((bit_len _ _ - 1) / (8 * g.row.N)) _ c.len.ensures.width.positive c.last_chunk-used.ensures.chunk

pub returns-clause-used : goal.returns-clause-used
returns-clause-used g c = rw c.last_chunk-used.ensures.used (last_used (8 * g.row.N) (bit_len g.row.N c.args.self.now) (omega arith))
