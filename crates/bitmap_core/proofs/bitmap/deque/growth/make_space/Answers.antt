use Rattle.std.proofs.lemmas.List.{length_push}
use Rattle.bitmap_bytes.proofs.Chunks.Places.{IsChunkCount-more, IsChunkCount-same}
use Rattle.bitmap_core.proofs.bitmap.deque.growth.make_space.Goals as goal

pub returns-in_ok-add_chunk-clause-space : goal.returns-in_ok-add_chunk-clause-space
returns-in_ok-add_chunk-clause-space g c =
    let positive = c.requires.width.positive in
    let width = c.chunk_width.ensures in
    rw (c.in_ok-add_chunk.ensures.ok, length_push) (IsChunkCount-more _ _ _ positive c.requires.count (rw width at c.if-len-chunk_width-eq0.true))

pub returns-else-len-chunk_width-eq0-clause-space : goal.returns-else-len-chunk_width-eq0-clause-space
returns-else-len-chunk_width-eq0-clause-space g c =
    IsChunkCount-same _ _ _ c.requires.width.positive c.requires.count (rw c.chunk_width.ensures at c.if-len-chunk_width-eq0.false)
