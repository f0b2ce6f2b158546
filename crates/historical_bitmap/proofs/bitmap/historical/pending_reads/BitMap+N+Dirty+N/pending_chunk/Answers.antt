use Rattle.std.proofs.Common.{◌∙◌, arith}
use Rattle.bitmap_core.specs.PrunedBits.{IsRetainedChunk}
use Rattle.bitmap_core.proofs.Meanings.Pruned.{pruned_shows}
use Rattle.historical_bitmap.specs.Pending.{pending_bits}
use Rattle.historical_bitmap.proofs.Pending.Chunks.{pending_chunk_is}
use Rattle.historical_bitmap.proofs.bitmap.historical.pending_reads.BitMap+N+Dirty+N.pending_chunk.Goals as goal

pub chunk-requires : goal.chunk-requires
chunk-requires g c =
    let has : IsRetainedChunk g.row.N (pending_bits g.row.N c.self.inside.current c.self.inside.state) c.args.index = rw (← c.self.view_is) at c.requires in
    (omega (arith, c.len.ensures.width.fits), (omega arith, (omega (arith, c.len.ensures.width.fits), (omega (arith, has.0, c.self.invariant.0.rises), omega (arith, c.requires.1, c.len.ensures.bound)))))

pub returns : goal.returns
returns g c =
    let has : IsRetainedChunk g.row.N (pending_bits g.row.N c.self.inside.current c.self.inside.state) c.args.index = rw (← c.self.view_is) at c.requires in
    rw (← c.self.view_is) (pruned_shows g.row.N (pending_bits g.row.N c.self.inside.current c.self.inside.state) c.args.index c.chunk.result c.len.ensures.width.positive (c.chunk.ensures.value ∙ pending_chunk_is g.row.N c.self.inside.current c.self.inside.state c.args.index c.len.ensures.width.positive c.self.invariant.0 has.0 (rw c.chunk.ensures.value at c.chunk.ensures.known)))
