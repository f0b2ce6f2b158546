use Rattle.std.proofs.Common.{◌-◌, length, arith}
use Rattle.std.proofs.lemmas.List.{length-take-le}
use Rattle.bitmap_bytes.proofs.Chunks.Places.{IsChunkCount-fewer, IsChunkCount-kept}
use Rattle.bitmap_bytes.proofs.Chunks.Lists.{chunks_bit-drop_last}
use Rattle.bitmap_core.proofs.bitmap.deque.growth.drop_space.Goals as goal

pub returns-then-len-chunk_width-eq0-clause-count : goal.returns-then-len-chunk_width-eq0-clause-count
returns-then-len-chunk_width-eq0-clause-count g c =
    let f = IsChunkCount-fewer _ _ _ c.requires.width.positive c.requires.count (rw c.chunk_width.ensures at c.if-len-chunk_width-eq0.true) in
    rw (
      c.pop_back.ensures.rest,
      c.args.chunks.now.ok.0,
      length-take-le (length c.args.chunks.now.items - 1) c.args.chunks.now.items (omega arith),
    ) f.1

pub returns-then-len-chunk_width-eq0-clause-same : goal.returns-then-len-chunk_width-eq0-clause-same
returns-then-len-chunk_width-eq0-clause-same g c =
    let positive = c.requires.width.positive in
    let width = c.chunk_width.ensures in
    let f = IsChunkCount-fewer _ _ _ positive c.requires.count (rw width at c.if-len-chunk_width-eq0.true) in
    rw (c.pop_back.ensures.rest, c.args.chunks.now.ok.0)
    (chunks_bit-drop_last _ _ _ positive c.requires.zero f.2 (rw width at c.if-len-chunk_width-eq0.true))

pub returns-else-len-chunk_width-eq0-clause-count : goal.returns-else-len-chunk_width-eq0-clause-count
returns-else-len-chunk_width-eq0-clause-count g c =
    IsChunkCount-kept _ _ _ c.requires.width.positive c.requires.count (rw c.chunk_width.ensures at c.if-len-chunk_width-eq0.false)
